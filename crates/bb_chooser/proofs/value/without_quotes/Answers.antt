use Rattle.std.proofs.Common.{lit<, sym, Some}
use Rattle.std.proofs.lemmas.Str.Pattern.{strip_prefix_char}
use Rattle.bb_chooser.proofs.Texts.{without_quotes_open, without_quotes_plain}
use Rattle.bb_chooser.proofs.value.without_quotes.Goals as goal

pub returns-in_default : goal.returns-in_default
unfolding lib.Utf8.encode
returns-in_default c = sym (without_quotes_plain c.args.value.now c.in_default.ensures.cases)

pub returns-in_default-strip_suffix : goal.returns-in_default-strip_suffix
unfolding lib.Utf8.encode
returns-in_default-strip_suffix c =
    sym (without_quotes_open c.args.value.now c.in-Some.rest.now (strip_prefix_char 34 c.args.value.now (Some c.in-Some.rest) c.in-Some.ensures.cases (lit< tt)) c.in_default-strip_suffix.ensures.cases)
