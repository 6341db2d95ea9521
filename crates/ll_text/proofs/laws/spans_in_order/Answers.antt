use Rattle.ll_text.proofs.Order.{spans_in_order}
use Rattle.ll_text.proofs.laws.spans_in_order.Goals as goal

pub returns : goal.returns
returns c = spans_in_order
