-- Bases at the start.
use Rattle.std.proofs.Common.{◌≡◌, ◌∙◌, ℕ, ap, refl}
use Rattle.std.specs.Prelude.{Bool, true, false, if◌then◌else◌, Some, None, ◌&&◌, nat_lt, ◌==◌}
use Rattle.std.specs.Option.{option_map_or}
use Rattle.setl_base.specs.Base.{empty}
use Rattle.setl_rep_bases.specs.declared.BaseId.{BaseId}
use Rattle.setl_rep_bases.specs.BaseId.{is_id}
use Rattle.setl_rep_bases.specs.declared.tables.Instance.{Instance}
use Rattle.setl_rep_bases.specs.Bases.{BasesState, instance_at, base_at, fresh, main_bases, with_added}
use Rattle.setl_rep_bases.specs.Reading.{MainInstancesAreFresh, InstancesArePut}
use Rattle.setl_store.specs.Flat.{AreUncut}

fresh_by : (b : Bool) → (option_map_or (λ (x : Instance). x.base) (if b then Some fresh else None) empty).cuts ≡ 0
fresh_by true = refl
fresh_by false = refl

-- nothing was cut
pub not_cut : MainInstancesAreFresh → (n : ℕ) (bs : BasesState) (i : BaseId) → bs ≡ main_bases n → (base_at bs i).cuts ≡ 0
not_cut fresh n bs i is =
    ap (λ cs. (base_at cs i).cuts) is
    ∙ ap (λ o. (option_map_or (λ (x : Instance). x.base) o empty).cuts) (fresh n i)
    ∙ fresh_by (nat_lt i.base n && i.instance == 0)

-- one more that is empty
pub one_more_uncut : InstancesArePut → (bs : BasesState) (i : BaseId) → AreUncut bs → AreUncut (with_added bs i)
one_more_uncut put bs i h j = ap (λ o. (option_map_or (λ (x : Instance). x.base) o empty).cuts) (put bs i fresh j) ∙ by (is_id j i)
  where
    by : (b : Bool) → (option_map_or (λ (x : Instance). x.base) (if b then Some fresh else instance_at bs j) empty).cuts ≡ 0
    by true = refl
    by false = h j
