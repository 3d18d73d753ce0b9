use Rattle.std.proofs.Common.{rules, ◌≡◌, ◌∙◌, not, ap}
use Rattle.std.specs.Cmp.{eq_by_cmp_equiv}
use Rattle.std.specs.List.{filter}
use Rattle.std.specs.Map.{lookup}
use Rattle.std.specs.BTreeMap.{is_at}
use Rattle.std.proofs.lemmas.Map.Made.{filter_same_pairs}
use Rattle.std.proofs.lemmas.Map.Entries.{lookup-filter-values}
use Rattle.std.proofs.lemmas.Map.Keys.{IsDistinct-from_sorted}
use Rattle.setl_rep_bases.specs.declared.BaseId.{BaseId}
use Rattle.setl_rep_bases.specs.declared.tables.Instance.{Instance}
use Rattle.setl_rep_bases.specs.BaseId.{id_cmp}
use Rattle.setl_rep_bases.proofs.Ids.{id_total}
use Rattle.setl_rep_bases.proofs.Tabled.{filtered}
use Rattle.setl_rep_bases.proofs.tables.drop_gone.Goals as goal

pub returns : goal.returns
returns c i =
    let old = c.args.table.now.entries in
    let kept : c.retain.new.self.entries ≡ filter (λ (e : BaseId × Instance). not e.1.gone) old = filter_same_pairs _ (λ (e : BaseId × Instance). not e.1.gone) _ (λ k v b w f t. search rules) old _ c.retain.ensures.filtered in
    ap (lookup (is_at (id_cmp i))) kept
    ∙ lookup-filter-values (eq_by_cmp_equiv id_total) (λ (x : Instance). not x.gone) i old (IsDistinct-from_sorted id_cmp _ c.retain.ensures.was_ordered)
    ∙ filtered (lookup (is_at (id_cmp i)) old)
