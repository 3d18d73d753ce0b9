use Rattle.std.proofs.Common.{◌≡◌, ◌∙◌, nat_eq, ap, sym}
use Rattle.std.specs.Cmp.{nat_cmp_total, unsigned_tied}
use Rattle.std.specs.FinSet as set
use Rattle.std.specs.List.{list_any}
use Rattle.std.specs.Ordering.{nat_cmp}
use Rattle.setl_rep_layout.proofs.Words.{both}
use Rattle.setl_rep_layout.proofs.sets.rising.Goals as goal

member : (ns : _) (q : _) → set.contains (set.from_list {R = nat_cmp} ns) q ≡ list_any (nat_eq q) ns
member ns q = set.contains-from_list nat_cmp_total ns q ∙ (λ i. list_any (λ n. unsigned_tied q n i) ns)

pub returns : goal.returns
returns c = both c.numbers.result c.numbers.ensures.rising c.numbers.ensures.members (λ list r e. record {
  rising = r;
  members = λ n. sym (member list.items n) ∙ ap (λ s. set.contains s n) e;
})
