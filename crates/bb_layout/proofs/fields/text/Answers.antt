use Rattle.std.proofs.Common.{◌≡◌, Some, sym, ap, ◌∙◌}
use Rattle.std.specs.Option.{option_copied}
use Rattle.std.specs.Str.{is_utf8}
use Rattle.bb_layout.specs.Fields.{string_of}
use Rattle.bb_layout.specs.Results.{option_filter}
use Rattle.bb_layout.proofs.Strings.{text_kept}
use Rattle.bb_layout.proofs.fields.text.Goals as goal

pub returns : goal.returns
returns c =
    let found : string_of c.args.value.now ≡ Some c.in_ok-string.field-0.now = sym c.string.ensures ∙ ap option_copied c.in_ok-string.was in
    ap option_copied c.ok.ensures.value ∙ text_kept _ c.in_ok-string.field-0.now c.from_utf8.result c.from_utf8.ensures.cases
    ∙ sym (ap (option_filter is_utf8) found)
