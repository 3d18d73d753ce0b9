-- Forms as their bases change.
use Rattle.std.proofs.Common.{◌≡◌, ℕ, Bool, true, false, List, [], ◌∷◌, ◌++◌, Option, Some, None, IsSome, option_and_then, refl, ap, sym, ◌∙◌, subst, arith}
use Rattle.std.specs.List.{filter_map, cons_option, list_any}
use Rattle.std.specs.Option.{option_map}
use Rattle.std.specs.Ordering.{nat_cmp, eq_by_cmp}
use Rattle.std.specs.FinSet as set
use Rattle.std.proofs.lemmas.Bool.{false≢true, or_left, or_right}
use Rattle.setl_value.specs.Datum.{Datum, set_of, tuple_of}
use Rattle.setl_value.specs.WellFormed.{IsTrimmed}
use Rattle.setl_set.specs.Sets.{set_from}
use Rattle.setl_base.specs.declared.Elt.{Elt}
use Rattle.setl_base.specs.Base.{BaseState, Member, member_at, value_in, value_of}
use Rattle.setl_rep_bases.specs.Bases.{BasesState, base_at}
use Rattle.setl_rep_bases.specs.Keeping.{AreKept, EnteringKeepsBlocks, CutsKeepBlocks}
use Rattle.setl_rep_forms.specs.Form.{Form, om, plain, element, numbers, table, handles, Entries, no_entry, entry_then}
use Rattle.setl_rep_forms.specs.Stands.{value_at, parts_at, pairs_of, stands, pairs_in, IsContent, AreHandles, IsOver, AreOver}
use Rattle.setl_rep_forms.specs.Laws.{FormsStay, FormsStayAsBasesGrow, FormsStayInFrontOfCuts}

-- ---- one base

abbrev Keeps : BaseState → BaseState → Type 0
Keeps b c = (n : ℕ) (m : Member) → member_at b n ≡ Some m → member_at c n ≡ Some m

kept_then : {B : Type 0} (g : Member → Option B) (o p : Option Member) → ((m : Member) → o ≡ Some m → p ≡ Some m) → IsSome (option_and_then g o) → option_and_then g p ≡ option_and_then g o
kept_then g None p k h = absurd (false≢true h)
kept_then g (Some m) p k h = ap (option_and_then g) (k m refl)

kept_map : {B : Type 0} (g : Member → B) (o p : Option Member) → ((m : Member) → o ≡ Some m → p ≡ Some m) → IsSome (option_map g o) → option_map g p ≡ option_map g o
kept_map g None p k h = absurd (false≢true h)
kept_map g (Some m) p k h = ap (option_map g) (k m refl)

pub kept_of : (b c : BaseState) → Keeps b c → (e : Elt) → IsSome (value_of b e) → value_of c e ≡ value_of b e
kept_of b c k e h = kept_then (value_in e.generation) (member_at b e.block) (member_at c e.block) (k e.block) h

pub kept_at : (b c : BaseState) → Keeps b c → (n : ℕ) → IsSome (value_at b n) → value_at c n ≡ value_at b n
kept_at b c k n h = kept_map (λ m. m.value) (member_at b n) (member_at c n) (k n) h

some_too : {A : Type 0} {o p : Option A} → p ≡ o → IsSome o → IsSome p
some_too e h = subst (λ x. IsSome x) (sym e) h

-- the same values at all these numbers
filter_same : (g h : ℕ → Option Datum) (ns : List ℕ) → ((n : ℕ) → list_any (eq_by_cmp nat_cmp n) ns ≡ true → h n ≡ g n) → filter_map h ns ≡ filter_map g ns
filter_same g h [] same = refl
filter_same g h (n ∷ ns) same =
    λ i. cons_option (same n (or_left (eq_by_cmp nat_cmp n n) (list_any (eq_by_cmp nat_cmp n) ns) (itself n)) i) (filter_same g h ns (λ k c. same k (or_right (eq_by_cmp nat_cmp k n) (list_any (eq_by_cmp nat_cmp k) ns) c)) i)
  where
    itself : (n : ℕ) → eq_by_cmp nat_cmp n n ≡ true
    itself n = grind (arith, Rattle.std.proofs.lemmas.Bool.Decides.nat_tests)

handles_stay : (b c : BaseState) → Keeps b c → (es : List (Option Elt)) → AreHandles b es → AreHandles c es × (parts_at c es ≡ parts_at b es)
handles_stay b c k [] h = (tt, refl)
handles_stay b c k (None ∷ es) h = let r = handles_stay b c k es h in (r.0, ap (λ l. None ∷ l) r.1)
handles_stay b c k (Some e ∷ es) h =
    let r = handles_stay b c k es h.1 in
    let p = kept_of b c k e h.0 in
    ((some_too p h.0, r.0), λ i. p i ∷ r.1 i)

-- ---- forms

mutual
  stays : (bs cs : BasesState) (f : Form) → AreKept bs cs → IsOver bs f → IsOver cs f × (stands cs f ≡ stands bs f)
  stays bs cs om k h = (tt, refl)
  stays bs cs (plain d) k h = (tt, refl)
  stays bs cs (element b e) k h = let p = kept_of (base_at bs b) (base_at cs b) (k.members b) e h.1 in ((k.there b h.0, some_too p h.1), p)
  stays bs cs (numbers l b ns) k h =
      let same : (n : ℕ) → set.contains ns n ≡ true → value_at (base_at cs b) n ≡ value_at (base_at bs b) n = λ n c. kept_at (base_at bs b) (base_at cs b) (k.members b) n (h.1 n c) in (
        (k.there b h.0, λ n c. some_too (same n c) (h.1 n c)),
        ap (λ ds. Some (set_of (set_from ds))) (filter_same (value_at (base_at bs b)) (value_at (base_at cs b)) (set.items ns) (λ n c. same n (set.contains-items ns n ∙ c))),
      )
  stays bs cs (table l b many es) k h =
      let r = entries_stay bs cs (base_at bs b) (base_at cs b) many es k (k.members b) h.1 in
      ((k.there b h.0, r.0), ap (λ ds. Some (set_of (set_from ds))) r.1)
  stays bs cs (handles b es) k h =
      let r = handles_stay (base_at bs b) (base_at cs b) (k.members b) es h.1 in
      ((k.there b h.0, r.0, subst (λ ps. IsTrimmed ps) (sym r.1) h.2), ap (λ ps. Some (tuple_of ps)) r.1)

  entries_stay : (bs cs : BasesState) (b c : BaseState) (many : Bool) (es : Entries) → AreKept bs cs → Keeps b c → AreOver bs b many es → AreOver cs c many es × (pairs_in cs c many es ≡ pairs_in bs b many es)
  entries_stay bs cs b c many no_entry k j h = (tt, refl)
  entries_stay bs cs b c many (entry_then n f es) k j h =
      let p = kept_at b c j n h.0 in
      let q = stays bs cs f k h.1 in
      let r = entries_stay bs cs b c many es k j h.3 in (
        (some_too p h.0, q.0, subst (λ v. IsContent many v) (sym q.1) h.2, r.0),
        λ i. pairs_of many (p i) (q.1 i) ++ r.1 i,
      )

pub forms_stay : FormsStay
forms_stay bs cs f k h = stays bs cs f k h

-- ---- bases of which one has changed

pub forms_stay_as_bases_grow : EnteringKeepsBlocks → FormsStayAsBasesGrow
forms_stay_as_bases_grow keeps bs b d f h = forms_stay bs _ f (keeps bs b d) h

pub forms_stay_in_front_of_cuts : CutsKeepBlocks → FormsStayInFrontOfCuts
forms_stay_in_front_of_cuts keep bs b n f t = let k = keep bs b n t in (λ h. forms_stay _ bs f k.1 h, λ h. forms_stay _ bs f k.0 h)
