use Rattle.std.proofs.Common.{drop, subst, sym, ap, ◌∙◌}
use Rattle.std.specs.Str.Parse.{AllDigits, digits_value}
use Rattle.bb_menu.specs.Ranks.{LeadsWell}
use Rattle.bb_menu.proofs.Numbers.{zeros_digits, zeros_lead, zeros_value}
use Rattle.bb_menu.proofs.version.without_zeros.Goals as goal

pub returns-clause-value : goal.returns-clause-value
returns-clause-value c =
    ap (digits_value 10) (c.split_at.ensures.back ∙ ap (λ n. drop n c.args.digits.now) c.zeros_in_front.ensures.value)
    ∙ zeros_value c.args.digits.now

pub returns-clause-digits : goal.returns-clause-digits
returns-clause-digits c =
    subst (AllDigits 10) (sym c.split_at.ensures.back) (zeros_digits c.zeros_in_front.result c.args.digits.now c.requires)

pub returns-clause-leads : goal.returns-clause-leads
returns-clause-leads c =
    subst LeadsWell (sym (c.split_at.ensures.back ∙ ap (λ n. drop n c.args.digits.now) c.zeros_in_front.ensures.value))
    (zeros_lead c.args.digits.now)
