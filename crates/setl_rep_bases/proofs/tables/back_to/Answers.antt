use Rattle.std.proofs.Common.{rules, ◌≡◌, sym, subst}
use Rattle.setl_rep_bases.specs.Tables.{marked_at, MayBeCut}
use Rattle.setl_rep_bases.proofs.Bringing.{unmoved, retained, found_at_place}
use Rattle.setl_rep_bases.proofs.tables.back_to.Goals as goal

pub retain-requires : goal.retain-requires
retain-requires c = record {
  at = λ front back g k v is calls p q pk qv.
      let ms = c.args.marks.now.entries in
      let same = unmoved _ ms _ g (λ a b t w h u. search rules) front calls in
      let as_before : g.0.now.entries ≡ ms = λ i. (same i).0.now.entries in
      let may : MayBeCut (marked_at ms k) v = c.requires k v (found_at_place c.args.table.now.entries front back k v c.len-ordered.ensures.ordered is) in
      let here : MayBeCut (marked_at ms p.now) q.now = subst (λ j. MayBeCut (marked_at ms j) q.now) (sym pk) (subst (λ x. MayBeCut (marked_at ms k) x) (sym qv) may) in
      let ready : MayBeCut (marked_at g.0.now.entries p.now) q.now = subst (λ es. MayBeCut (marked_at es p.now) q.now) (sym as_before) here in
      λ lives at n other m same_places u count ends. ready;
}

pub returns : goal.returns
returns c = retained _ c.args.marks.now.entries _ (λ k v b w g t. search rules) c.args.table.now.entries c.retain.new.self.entries c.retain.ensures.filtered
