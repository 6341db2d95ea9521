use Rattle.record_text.specs.Tables.{access_keys, other_keys}
use Rattle.record_text.proofs.Joined.{found_joined}
use Rattle.record_text.proofs.tables.request_key_of.Goals as goal

pub returns : goal.returns
returns c = found_joined access_keys other_keys c.args.word.now c.access_key.result c.other_key.result c.or.result c.access_key.ensures c.other_key.ensures c.or.ensures
