-- Operators on sets of members by number.
use Rattle.std.proofs.Common.{◌≡◌, ℕ, Bool, false, List, [], ◌∷◌, Option, Some, None, ⊎_elim, length, refl, ap, sym, ◌∙◌, subst, pos}
use Rattle.std.specs.Cmp.{nat_cmp_total}
use Rattle.std.proofs.lemmas.Bool.{or_cases, and_parts}
use Rattle.std.specs.Ordering.{nat_cmp}
use Rattle.std.specs.FinSet as set
use Rattle.setl_value.specs.Datum.{Datum, int, elements_of, element_list, element_list-elements_of}
use Rattle.setl_set.specs.Sets.{has_datum, union_of, minus_of, meet_of, symm_of}
use Rattle.setl_operators_table.specs.Operators.{op_of}
use Rattle.setl_operators_table.specs.Outcome.{Gives, truth, value, set_value}
use Rattle.setl_operators_table.specs.declared.Operator.TheVariants.{In, Size}
use Rattle.setl_base.specs.declared.Elt.{Elt}
use Rattle.setl_base.specs.Base.{BaseState, IsBase}
use Rattle.setl_rep_bases.specs.declared.BaseId.{BaseId}
use Rattle.setl_rep_bases.specs.Bases.{BasesState, base_at, IsThere}
use Rattle.setl_rep_forms.specs.Form.{Layout, Form, plain, element, numbers, remote}
use Rattle.setl_rep_forms.specs.Stands.{members_at, stands, IsOver, AreLiving}
use Rattle.setl_rep_forms.specs.Laws.{CountsGoByNumber, MembersAreTestedByNumber, UnionsGoByNumber, MeetsGoByNumber, DifferencesGoByNumber, SymmetricDifferencesGoByNumber}
use Rattle.setl_rep_kernels.specs.declared.operations.SetOperation.{SetOperation}
use Rattle.setl_rep_kernels.specs.declared.operations.SetOperation.TheVariants.{Union, Difference, Intersection, SymmetricDifference}
use Rattle.setl_rep_kernels.specs.Parts.{set_parts, single_value, AreRemote, HasPlace}
use Rattle.setl_rep_kernels.specs.Kernels.{operator_of, combined_numbers}

some_same : {A : Type 0} {x y : A} → Some x ≡ Some y → x ≡ y
some_same p = cc

not_both : {A : Type 0} {x : A} → None ≡ Some x → ⊥
not_both p = cc

-- ---- the parts of a form

pub form_of_parts : (f : Form) (k : Layout) (b : BaseId) (ns : set.FinSet nat_cmp) → set_parts f ≡ Some (k, b, ns) → f ≡ numbers k b ns
form_of_parts (numbers l c ms) k b ns p = let q : (l, c, ms) ≡ (k, b, ns) = some_same p in λ i. numbers (q i).0 (q i).1 (q i).2
form_of_parts f k b ns p = absurd (not_both p)

over_numbers : (bs : BasesState) (f : Form) (k : Layout) (b : BaseId) (ns : set.FinSet nat_cmp) → f ≡ numbers k b ns → IsOver bs f → IsThere bs b × AreLiving (base_at bs b) ns
over_numbers bs f k b ns e h = subst (λ g. IsOver bs g) e h

-- the value held plain or as an element is what the form stands for
single_stands : (bs : BasesState) (f : Form) (d : Datum) → single_value bs f ≡ Some d → stands bs f ≡ Some d
single_stands bs (plain x) d h = h
single_stands bs (element b e) d h = h
single_stands bs f d h = absurd (not_both h)

-- ---- membership and size

in_op : (bs : BasesState) (f g : Form) (k : Layout) (b : BaseId) (ns : set.FinSet nat_cmp) (d : Datum) (t : Bool) (left : ℕ)
    → stands bs f ≡ Some d → g ≡ numbers k b ns → has_datum d (members_at (base_at bs b) ns) ≡ t → op_of In (stands bs f ∷ stands bs g ∷ []) left ≡ truth t
in_op bs f g k b ns d t left s e h =
    (λ i. op_of In (s i ∷ stands bs (e i) ∷ []) left)
    ∙ ap (λ ms. truth (has_datum d ms)) (element_list-elements_of (members_at (base_at bs b) ns))
    ∙ ap truth h

-- the value is no member of the set's base
pub none_in : MembersAreTestedByNumber → (bs : BasesState) (f g : Form) (k : Layout) (b : BaseId) (ns : set.FinSet nat_cmp) (place : Option Elt)
    → IsBase (base_at bs b) → g ≡ numbers k b ns → place ≡ None → HasPlace (base_at bs b) (single_value bs f) (Some place)
    → (left : ℕ) → op_of In (stands bs f ∷ stands bs g ∷ []) left ≡ truth false
none_in tested bs f g k b ns place base e is h left = by (single_value bs f) refl (subst (λ o. HasPlace (base_at bs b) (single_value bs f) (Some o)) is h)
  where
    by : (v : Option Datum) → single_value bs f ≡ v → HasPlace (base_at bs b) v (Some None) → op_of In (stands bs f ∷ stands bs g ∷ []) left ≡ truth false
    by None q p = absurd p
    by (Some d) q p = in_op bs f g k b ns d false left (single_stands bs f d q) e ((tested (base_at bs b) ns d base).1 p)

-- it is the member at the handle i
pub some_in : MembersAreTestedByNumber → (bs : BasesState) (f g : Form) (k : Layout) (b : BaseId) (ns : set.FinSet nat_cmp) (place : Option Elt) (i : Elt) (t : Bool)
    → IsBase (base_at bs b) → g ≡ numbers k b ns → place ≡ Some i → HasPlace (base_at bs b) (single_value bs f) (Some place) → t ≡ set.contains ns i.block
    → (left : ℕ) → op_of In (stands bs f ∷ stands bs g ∷ []) left ≡ truth t
some_in tested bs f g k b ns place i t base e is h there left = by (single_value bs f) refl (subst (λ o. HasPlace (base_at bs b) (single_value bs f) (Some o)) is h)
  where
    by : (v : Option Datum) → single_value bs f ≡ v → HasPlace (base_at bs b) v (Some (Some i)) → op_of In (stands bs f ∷ stands bs g ∷ []) left ≡ truth t
    by None q p = absurd p
    by (Some d) q p = in_op bs f g k b ns d t left (single_stands bs f d q) e ((tested (base_at bs b) ns d base).0 i p ∙ sym there)

pub size_op : CountsGoByNumber → (bs : BasesState) (f : Form) (b : BaseId) (ns : set.FinSet nat_cmp) (n : ℕ) → f ≡ numbers remote b ns → IsOver bs f → IsBase (base_at bs b) → n ≡ set.len ns
    → (left : ℕ) → op_of Size (stands bs f ∷ []) left ≡ value (int (pos n))
size_op counts bs f b ns n e h base c left =
    let living : AreLiving (base_at bs b) ns = (over_numbers bs f remote b ns e h).1 in
    (λ i. op_of Size (stands bs (e i) ∷ []) left)
    ∙ ap (λ ms. value (int (pos (length ms)))) (element_list-elements_of (members_at (base_at bs b) ns))
    ∙ ap (λ m. value (int (pos m))) (counts (base_at bs b) ns base living ∙ sym c)

-- ---- two sets

on_lists : (make : List Datum → List Datum → List Datum) (b : BaseState) (x y z : set.FinSet nat_cmp) → members_at b z ≡ make (members_at b x) (members_at b y)
    → set_value (make (element_list (elements_of (members_at b x))) (element_list (elements_of (members_at b y)))) ≡ set_value (members_at b z)
on_lists make b x y z h =
    (λ i. set_value (make (element_list-elements_of (members_at b x) i) (element_list-elements_of (members_at b y) i))) ∙ ap set_value (sym h)

combined_op : UnionsGoByNumber → MeetsGoByNumber → DifferencesGoByNumber → SymmetricDifferencesGoByNumber
    → (bs : BasesState) (what : SetOperation) (b : BaseId) (x y : set.FinSet nat_cmp) (left : ℕ) → IsBase (base_at bs b)
    → op_of (operator_of what) (stands bs (numbers remote b x) ∷ stands bs (numbers remote b y) ∷ []) left ≡ Gives (stands bs (numbers remote b (combined_numbers what x y))) 0
combined_op unions meets differences symms bs Union b x y left base = on_lists union_of (base_at bs b) x y (set.union x y) (unions (base_at bs b) x y)
combined_op unions meets differences symms bs Difference b x y left base = on_lists minus_of (base_at bs b) x y (set.difference x y) (differences (base_at bs b) x y base)
combined_op unions meets differences symms bs Intersection b x y left base = on_lists meet_of (base_at bs b) x y (set.intersection x y) (meets (base_at bs b) x y base)
combined_op unions meets differences symms bs SymmetricDifference b x y left base = on_lists symm_of (base_at bs b) x y (set.union (set.difference x y) (set.difference y x)) (symms (base_at bs b) x y base)

pub combined_value : UnionsGoByNumber → MeetsGoByNumber → DifferencesGoByNumber → SymmetricDifferencesGoByNumber
    → (bs : BasesState) (what : SetOperation) (f g r : Form) (b : BaseId) (x y z : set.FinSet nat_cmp) → IsBase (base_at bs b)
    → AreRemote f g b x y → r ≡ numbers remote b z → z ≡ combined_numbers what x y
    → (left : ℕ) → op_of (operator_of what) (stands bs f ∷ stands bs g ∷ []) left ≡ Gives (stands bs r) 0
combined_value unions meets differences symms bs what f g r b x y z base e q p left =
    (λ i. op_of (operator_of what) (stands bs (e.0 i) ∷ stands bs (e.1 i) ∷ []) left)
    ∙ combined_op unions meets differences symms bs what b x y left base
    ∙ (λ i. Gives (stands bs (numbers remote b (sym p i))) 0)
    ∙ (λ i. Gives (stands bs (sym q i)) 0)

combined_living : (what : SetOperation) (b : BaseState) (x y : set.FinSet nat_cmp) → AreLiving b x → AreLiving b y → AreLiving b (combined_numbers what x y)
combined_living Union b x y l r n h = ⊎_elim (λ c. l n c) (λ c. r n c) (or_cases _ _ (sym (set.contains-union nat_cmp_total x y n) ∙ h))
combined_living Difference b x y l r n h = l n (and_parts _ _ (sym (set.contains-difference nat_cmp_total x y n) ∙ h)).0
combined_living Intersection b x y l r n h = l n (and_parts _ _ (sym (set.contains-intersection nat_cmp_total x y n) ∙ h)).0
combined_living SymmetricDifference b x y l r n h =
    ⊎_elim
    (λ c. l n (and_parts _ _ (sym (set.contains-difference nat_cmp_total x y n) ∙ c)).0)
    (λ c. r n (and_parts _ _ (sym (set.contains-difference nat_cmp_total y x n) ∙ c)).0)
    (or_cases _ _ (sym (set.contains-union nat_cmp_total (set.difference x y) (set.difference y x) n) ∙ h))

pub combined_over : (bs : BasesState) (what : SetOperation) (f g r : Form) (b : BaseId) (x y z : set.FinSet nat_cmp)
    → AreRemote f g b x y → r ≡ numbers remote b z → z ≡ combined_numbers what x y → IsOver bs f → IsOver bs g → IsOver bs r
combined_over bs what f g r b x y z e q p h i =
    let left = over_numbers bs f remote b x e.0 h in
    let right = over_numbers bs g remote b y e.1 i in
    subst (λ o. IsOver bs o) (sym q) (left.0, subst (λ m. AreLiving (base_at bs b) m) (sym p) (combined_living what (base_at bs b) x y left.1 right.1))
