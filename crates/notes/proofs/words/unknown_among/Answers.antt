use Rattle.std.proofs.Common.{ap, ◌∙◌, string_bytes}
use Rattle.std.specs.Option.{option_map}
use Rattle.notes.specs.Words.{is_unknown}
use Rattle.notes.proofs.Found.{find_mapped, of_copied}
use Rattle.notes.proofs.words.unknown_among.Goals as goal

pub returns : goal.returns
returns c =
    of_copied string_bytes c.unknown_string.result
    ∙ ap (option_map string_bytes) c.unknown_string.ensures
    ∙ find_mapped string_bytes (is_unknown c.args.options) c.args.words.now
