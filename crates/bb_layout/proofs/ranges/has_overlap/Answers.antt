use Rattle.std.proofs.Common.{List, map, subst, ap, ◌∙◌, rules}
use Rattle.std.specs.List.Sorted.{IsPermutation}
use Rattle.std.proofs.lemmas.List.Sorted.{IsNonDecreasingBy-from_sort_by_key}
use Rattle.bb_layout.specs.Spans.{has_meeting_spans, span_of}
use Rattle.bb_layout.proofs.Meeting.{Span, overlap}
use Rattle.bb_layout.proofs.ranges.has_overlap.Goals as goal

pub returns : goal.returns
returns c =
    let vars = c.args.vars.now in
    let qs = c.sort_unstable_by_key.new.self.items in
    let moved : IsPermutation (map span_of vars) qs =
    subst (λ (l : List Span). IsPermutation l qs) c.in_ok-spans.ensures c.sort_unstable_by_key.ensures.permutation in
    let rising = IsNonDecreasingBy-from_sort_by_key (λ (p : Span). p.0) qs c.sort_unstable_by_key.ensures.sorted (λ a r q k. search rules) in
    c.has_meeting_spans.ensures ∙ ap has_meeting_spans c.as_slice.ensures.value ∙ overlap vars qs moved c.requires rising
