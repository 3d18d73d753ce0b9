-- Bases into which places were entered one after the other.
use Rattle.std.proofs.Common.{append-nil, ◌≡◌, ◌∙◌, ℕ, ◌+◌, Bool, true, false, not, cond, ◌||◌, List, [], ◌∷◌, ◌++◌, map, Option, None, Some, IsSome, refl, sym, ap, subst}
use Rattle.std.proofs.Math.Bool.{or-false}
use Rattle.std.proofs.lemmas.Bool.{false≢true}
use Rattle.std.proofs.lemmas.List.Folds.{list_any-append}
use Rattle.std.specs.Bool.{if◌then◌else◌}
use Rattle.std.specs.List.{filter, AllByRecursion}
use Rattle.std.specs.List.Sorted.{IsStrictlySortedBy}
use Rattle.std.specs.Option.{option_map, option_map_or, is_some}
use Rattle.std.specs.declared.cmp.Ordering.TheVariants.{Less}
use Rattle.std.specs.Ordering.{is_eq}
use Rattle.setl_value.specs.Datum.{Datum}
use Rattle.setl_value.specs.code.DatumOf.{datum}
use Rattle.setl_value.specs.Order.{datum_cmp, IsRising}
use Rattle.setl_value.specs.OrderLaws.{same_if_eq, eq_iff_same}
use Rattle.setl_set.specs.Sets.{has_datum}
use Rattle.setl_base.specs.Base.{BaseState, Member, empty, handle, find_from, find, entered, with_member}
use Rattle.setl_rep_bases.specs.declared.BaseId.{BaseId}
use Rattle.setl_rep_bases.specs.declared.tables.Instance.{Instance}
use Rattle.setl_rep_bases.specs.BaseId.{is_id, id, main}
use Rattle.setl_rep_bases.specs.Bases.{BasesState, instance_at, base_at, is_gone, IsThere, is_there, named, with_entered}
use Rattle.setl_rep_bases.specs.Reading.{InstancesArePut, NamesAreExact}
use Rattle.setl_rep_entering.specs.declared.places.Place.{Place}
use Rattle.setl_rep_entering.specs.Entering.{values_in, with_values}
use Rattle.setl_rep_entering.specs.code.Growing.{all_placed, ArePlacesThere}

pub itself : (d : Datum) → is_eq (datum_cmp d d) ≡ true
itself d = (eq_iff_same d d).1 refl

pub has_append : (x : Datum) (xs ys : List Datum) → has_datum x (xs ++ ys) ≡ (has_datum x xs || has_datum x ys)
has_append x xs ys = list_any-append (λ e. is_eq (datum_cmp x e)) xs ys

pub named_base : (bs : BasesState) (n b : ℕ) → (named bs n b).base ≡ b
named_base bs n b = by (is_there bs (main b))
  where
    by : (t : Bool) → (if t then main b else id b n).base ≡ b
    by true = refl
    by false = refl

-- ---- one base

found_from : (n : ℕ) (ms : List Member) (d : Datum) → is_some (find_from n ms d) ≡ has_datum d (map (λ m. m.value) ms)
found_from n [] d = refl
found_from n (m ∷ ms) d = by (is_eq (datum_cmp d m.value)) (found_from (n + 1) ms d)
  where
    by : (t : Bool) → is_some (find_from (n + 1) ms d) ≡ has_datum d (map (λ m. m.value) ms) → is_some (if t then Some (handle n m) else find_from (n + 1) ms d) ≡ (t || has_datum d (map (λ m. m.value) ms))
    by true h = refl
    by false h = h

-- a value is found where it is a member
pub found : (b : BaseState) (d : Datum) → is_some (find b d) ≡ has_datum d (values_in b)
found b d = found_from 1 b.members d

-- the base after these were entered one after the other
abbrev pub all_entered : BaseState → List Datum → BaseState
all_entered b [] = b
all_entered b (d ∷ ds) = all_entered (entered b d) ds

-- the new members of b
abbrev pub fresh : BaseState → List Datum → List Member
fresh b ds = map (λ d. record { value = d; generation = b.cuts }) (filter (λ d. not (has_datum d (values_in b))) ds)

joined : {A : Type 0} (xs ys zs : List A) → (xs ++ ys) ++ zs ≡ xs ++ (ys ++ zs)
joined [] ys zs = refl
joined (x ∷ xs) ys zs = ap (λ l. x ∷ l) (joined xs ys zs)

map_put : (ms : List Member) (m : Member) → map (λ (k : Member). k.value) (ms ++ m ∷ []) ≡ map (λ (k : Member). k.value) ms ++ m.value ∷ []
map_put [] m = refl
map_put (x ∷ xs) m = ap (λ l. x.value ∷ l) (map_put xs m)

filter_same : (p q : Datum → Bool) (ds : List Datum) → AllByRecursion (λ d. p d ≡ q d) ds → filter p ds ≡ filter q ds
filter_same p q [] h = refl
filter_same p q (d ∷ ds) h = λ i. cond (h.0 i) (d ∷ filter_same p q ds h.1 i) (filter_same p q ds h.1 i)

-- those above d aren't d
others : (vs : List Datum) (d : Datum) (ds : List Datum) → AllByRecursion (λ e. datum_cmp d e ≡ Less) ds → AllByRecursion (λ e. not (has_datum e (vs ++ d ∷ [])) ≡ not (has_datum e vs)) ds
others vs d [] h = tt
others vs d (e ∷ es) h =
    (ap not (has_append e vs (d ∷ []) ∙ ap (λ t. has_datum e vs || (t || false)) (isnt e d h.0) ∙ or-false (has_datum e vs)), others vs d es h.1)
  where
    isnt : (e d : Datum) → datum_cmp d e ≡ Less → is_eq (datum_cmp e d) ≡ false
    isnt e d p = by (is_eq (datum_cmp e d)) refl
      where
        by : (t : Bool) → is_eq (datum_cmp e d) ≡ t → t ≡ false
        by true q = absurd (false≢true (sym (ap is_eq p) ∙ ap (λ x. is_eq (datum_cmp d x)) (same_if_eq e d q) ∙ itself d))
        by false q = refl

-- a member changes nothing, and what is no member comes behind the others
stays : (b : BaseState) (d : Datum) → has_datum d (values_in b) ≡ true → entered b d ≡ b
stays b d h = ap (λ t. record b { members = if t then b.members else with_member b d }) (found b d ∙ h)

comes : (b : BaseState) (d : Datum) → has_datum d (values_in b) ≡ false → entered b d ≡ record b { members = with_member b d }
comes b d h = ap (λ t. record b { members = if t then b.members else with_member b d }) (found b d ∙ h)

-- values in rising order are put behind the members, without those that are members
pub entering_appends : (b : BaseState) (ds : List Datum) → IsRising ds → all_entered b ds ≡ with_values b ds
unfolding IsStrictlySortedBy
entering_appends b [] r = ap (λ l. record b { members = l }) (sym (append-nil b.members))
entering_appends b (d ∷ ds) r = entering_appends (entered b d) ds r.1 ∙ by (has_datum d (values_in b)) refl
  where
    by : (t : Bool) → has_datum d (values_in b) ≡ t → with_values (entered b d) ds ≡ with_values b (d ∷ ds)
    by true p =
        ap (λ c. with_values c ds) (stays b d p)
        ∙ ap (λ t. record b { members = b.members ++ map (λ d. record { value = d; generation = b.cuts }) (cond (not t) (d ∷ filter (λ e. not (has_datum e (values_in b))) ds) (filter (λ e. not (has_datum e (values_in b))) ds)) }) (sym p)
    by false p =
        let m : Member = record { value = d; generation = b.cuts } in
        let c : BaseState = record b { members = with_member b d } in
        let vs : values_in c ≡ values_in b ++ d ∷ [] = map_put b.members m in
        let same : filter (λ e. not (has_datum e (values_in c))) ds ≡ filter (λ e. not (has_datum e (values_in b))) ds =
        ap (λ l. filter (λ e. not (has_datum e l)) ds) vs ∙ filter_same (λ e. not (has_datum e (values_in b ++ d ∷ []))) (λ e. not (has_datum e (values_in b))) ds (others (values_in b) d ds r.0)
        in
        ap (λ c. with_values c ds) (comes b d p)
        ∙ ap (λ l. record b { members = with_member b d ++ map (λ d. record { value = d; generation = b.cuts }) l }) same
        ∙ ap (λ l. record b { members = l }) (joined b.members (m ∷ []) (fresh b ds))
        ∙ ap (λ t. record b { members = b.members ++ map (λ d. record { value = d; generation = b.cuts }) (cond (not t) (d ∷ filter (λ e. not (has_datum e (values_in b))) ds) (filter (λ e. not (has_datum e (values_in b))) ds)) }) (sym p)

-- ---- instances

-- the values that go into an instance
abbrev pub values_at : BaseId → List Place → List Datum
values_at i [] = []
values_at i (p ∷ ps) = if is_id i p.base then datum p.value ∷ values_at i ps else values_at i ps

-- an instance after these were entered
abbrev pub grown_by : List Datum → Instance → Instance
grown_by ds x = record x { base = all_entered x.base ds }

pub placed_instance : InstancesArePut → NamesAreExact → (ps : List Place) (bs : BasesState) → ArePlacesThere bs ps → (i : BaseId) → instance_at (all_placed bs ps) i ≡ option_map (grown_by (values_at i ps)) (instance_at bs i)
placed_instance put names [] bs h i = itself_mapped (instance_at bs i)
  where
    itself_mapped : (o : Option Instance) → o ≡ option_map (grown_by []) o
    itself_mapped None = refl
    itself_mapped (Some x) = refl
placed_instance put names (p ∷ ps) bs h i = placed_instance put names ps cs (all_stay ps h.1) i ∙ by (is_id i p.base) refl
  where
    cs : BasesState
    cs = with_entered bs p.base (datum p.value)

    x : Instance
    x = record { base = entered (base_at bs p.base) (datum p.value); gone = is_gone bs p.base }

    there : (j : BaseId) (t : Bool) → is_id j p.base ≡ t → IsThere bs j → IsThere cs j
    there j true e s = subst IsSome (sym (put bs p.base x j ∙ ap (λ t. if t then Some x else instance_at bs j) e)) refl
    there j false e s = subst IsSome (sym (put bs p.base x j ∙ ap (λ t. if t then Some x else instance_at bs j) e)) s

    all_stay : (qs : List Place) → ArePlacesThere bs qs → ArePlacesThere cs qs
    all_stay [] a = tt
    all_stay (q ∷ qs) a = (there q.base (is_id q.base p.base) refl a.0, all_stay qs a.1)

    at_self : (o : Option Instance) (ds : List Datum) → IsSome o
        → Some (grown_by ds (record { base = entered (option_map_or (λ y. y.base) o empty) (datum p.value); gone = option_map_or (λ y. y.gone) o false })) ≡ option_map (grown_by (datum p.value ∷ ds)) o
    at_self None ds s = absurd (false≢true s)
    at_self (Some y) ds s = refl

    by : (t : Bool) → is_id i p.base ≡ t → option_map (grown_by (values_at i ps)) (instance_at cs i) ≡ option_map (grown_by (values_at i (p ∷ ps))) (instance_at bs i)
    by true e =
        ap (option_map (grown_by (values_at i ps))) (put bs p.base x i ∙ ap (λ t. if t then Some x else instance_at bs i) e)
        ∙ at_self (instance_at bs p.base) (values_at i ps) h.0
        ∙ ap (λ j. option_map (grown_by (datum p.value ∷ values_at i ps)) (instance_at bs j)) (sym ((names i p.base).0 e))
        ∙ ap (λ t. option_map (grown_by (if t then datum p.value ∷ values_at i ps else values_at i ps)) (instance_at bs i)) (sym e)
    by false e =
        ap (option_map (grown_by (values_at i ps))) (put bs p.base x i ∙ ap (λ t. if t then Some x else instance_at bs i) e)
        ∙ ap (λ t. option_map (grown_by (if t then datum p.value ∷ values_at i ps else values_at i ps)) (instance_at bs i)) (sym e)

pub placed_count : (ps : List Place) (bs : BasesState) → (all_placed bs ps).count ≡ bs.count
placed_count [] bs = refl
placed_count (p ∷ ps) bs = placed_count ps (with_entered bs p.base (datum p.value))
