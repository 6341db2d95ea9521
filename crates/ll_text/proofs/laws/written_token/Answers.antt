use Rattle.ll_text.proofs.Written.{written_token}
use Rattle.ll_text.proofs.laws.written_token.Goals as goal

pub returns : goal.returns
returns c = written_token
