-- A table whose instances are brought back to marks.
use Rattle.std.proofs.Common.{◌≡◌, ◌∙◌, ℕ, ◌<◌, ◌≤◌, ◌^◌, Bool, true, false, cond, List, [], ◌∷◌, ◌++◌, map, length, slice_get, Option, None, Some, refl, sym, ap, subst}
use Rattle.std.specs.BTreeMap.{is_at}
use Rattle.std.specs.Cmp.{Equal-is, eq_by_cmp_equiv}
use Rattle.std.specs.List.{FoldsTo}
use Rattle.std.specs.Option.{option_map, option_map_or}
use Rattle.std.specs.FinMap as finmap
use Rattle.std.specs.List.Sorted.{IsStrictlySortedBy}
use Rattle.std.specs.List.{IsDistinct}
use Rattle.std.specs.Map.{keys_of, update_all}
use Rattle.std.specs.Ordering.{eq_by_cmp}
use Rattle.std.proofs.lemmas.Map.Made.{update_all_none, lookup-map_values}
use Rattle.std.proofs.lemmas.Map.Entries.{lookup_from_place}
use Rattle.std.proofs.lemmas.Map.Keys.{IsDistinct-from_sorted}
use Rattle.std.specs.Map.Calls.{RetainsPairs, SomeCallAtPair}
use Rattle.setl_base.specs.Base.{empty}
use Rattle.setl_rep_bases.specs.declared.BaseId.{BaseId}
use Rattle.setl_rep_bases.specs.declared.marks.Mark.{Mark}
use Rattle.setl_rep_bases.specs.declared.tables.Instance.{Instance}
use Rattle.setl_rep_bases.specs.BaseId.{id_cmp}
use Rattle.setl_rep_bases.specs.Bases.{BasesState, instance_at, base_at}
use Rattle.setl_rep_bases.specs.Tables.{found, state_of, marked_at, brought, Brings, MayBeCut}
use Rattle.setl_rep_bases.specs.Marks.{Marks, mark_of, marks_of, as_cut, back_all, AreWithin, HaveFewCuts}
use Rattle.setl_rep_bases.proofs.Ids.{id_total, same_id}
use Rattle.setl_rep_bases.proofs.Tabled.{at_table}
use Rattle.setl_rep_bases.proofs.Cutting.{marks_are_read, counted_cuts_are_read}

-- ---- `retain` by a closure that brings each instance, and stays as it was

unmarked : (w : Option Mark) (v : Instance) → None ≡ option_map (as_cut v) w → w ≡ None
unmarked None v e = refl
unmarked (Some m) v e = absurd (cc)

none_brought : (w : Option Mark) (o : Option Instance) → w ≡ None → None ≡ brought as_cut w o
none_brought w None e = refl
none_brought w (Some x) e = sym (ap (option_map (as_cut x)) e)

module _ {F : Type 0} (T : F → BaseId → Instance → Bool → Instance → F → Type 0) (ms : List (BaseId × Mark)) where
  -- a call of the closure cuts the instance to its mark, and tells whether it has one
  abbrev pub BringsEach : F → Type 0
  BringsEach f = (k : BaseId) (v : Instance) (b : Bool) (w : Instance) (g : F) → T f k v b w g → (cond b (Some w) None ≡ option_map (as_cut v) (marked_at ms k)) × (g ≡ f)

  pub unmoved : (f g : F) → BringsEach f → (es : List (BaseId × Instance)) → FoldsTo (SomeCallAtPair T) f es g → g ≡ f
  unmoved f g h [] c = sym c
  unmoved f g h (e ∷ es) c = unmoved f g h es (subst (λ k. FoldsTo (SomeCallAtPair T) k es g) (h e.0 e.1 c.1.0 c.1.1 c.0 c.1.2).1 c.2)

  one : (i : BaseId) (b t : Bool) (k : BaseId) (v w : Instance) (es rest : List (BaseId × Instance)) → is_at (id_cmp i) k ≡ t →
      cond b (Some w) None ≡ option_map (as_cut v) (marked_at ms k) → found rest i ≡ brought as_cut (marked_at ms i) (found es i) →
      found (cond b ((k, w) ∷ rest) rest) i ≡ brought as_cut (marked_at ms i) (cond t (Some v) (found es i))
  one i true true k v w es rest at h more =
      ap (λ (u : Bool). cond u (Some w) (found rest i)) at
      ∙ h
      ∙ ap (λ j. option_map (as_cut v) (marked_at ms j)) (sym (same_id i k ((Equal-is (id_cmp i k)).0 at)))
  one i true false k v w es rest at h more = ap (λ (u : Bool). cond u (Some w) (found rest i)) at ∙ more
  one i false true k v w es rest at h more =
      let same : k ≡ i = sym (same_id i k ((Equal-is (id_cmp i k)).0 at)) in
      let none : marked_at ms i ≡ None = subst (λ j. marked_at ms j ≡ None) same (unmarked (marked_at ms k) v h) in
      more ∙ sym (none_brought (marked_at ms i) (found es i) none) ∙ none_brought (marked_at ms i) (Some v) none
  one i false false k v w es rest at h more = more

  pub retained : (f : F) → BringsEach f → (es kept : List (BaseId × Instance)) → RetainsPairs T f es kept → Brings ms es kept
  retained f h [] kept r i = ap (λ l. found l i) r
  retained f h (e ∷ es) kept r i =
      let a = h e.0 e.1 r.0 r.1 r.2 r.4 in
      let rest = retained f h es r.3 (subst (λ u. RetainsPairs T u es r.3) a.1 r.5) i in
      ap (λ l. found l i) r.6 ∙ one i r.0 (is_at (id_cmp i) e.0) e.0 e.1 r.1 es r.3 refl a.0 rest

-- ---- an entry by its place

at_split : {A : Type 0} (front back : List A) (x : A) → slice_get (front ++ x ∷ back) (length front) ≡ Some x
at_split [] back x = refl
at_split (y ∷ front) back x = at_split front back x

pub found_at_place : (es front back : List (BaseId × Instance)) (k : BaseId) (v : Instance) → IsStrictlySortedBy id_cmp (keys_of es) → es ≡ front ++ (k, v) ∷ back → found es k ≡ Some v
found_at_place es front back k v sorted is =
    lookup_from_place (eq_by_cmp_equiv id_total) es (length front) k v (IsDistinct-from_sorted id_cmp (keys_of es) sorted) (ap (λ l. slice_get l (length front)) is ∙ at_split front back (k, v))

-- ---- bases

find_marked : (ms : List (BaseId × Mark)) (q : BaseId) → finmap.find id_cmp q ms ≡ marked_at ms q
find_marked [] q = refl
find_marked (m ∷ ms) q = ap (cond (is_at (id_cmp q) m.0) (Some m.1)) (find_marked ms q)

-- what the map of a table of marks has at a name
at_marks : (ms : List (BaseId × Mark)) (q : BaseId) → finmap.get (finmap.from_entries {R = id_cmp} ms) q ≡ marked_at ms q
at_marks ms q = finmap.get-from_entries id_total ms q ∙ find_marked ms q

-- a table of marks that has what each instance of the table has
pub marks_made : (count : ℕ) (es : List (BaseId × Instance)) (ms : List (BaseId × Mark)) (s : BasesState) → state_of count es ≡ s → ((i : BaseId) → marked_at ms i ≡ option_map mark_of (found es i)) →
    finmap.from_entries {R = id_cmp} ms ≡ marks_of s
marks_made count es ms s is h =
    finmap.same_map id_total same_id _ _ (λ i.
    at_marks ms i
    ∙ h i
    ∙ ap (option_map mark_of) (sym (at_table es i))
    ∙ ap (λ t. option_map mark_of (instance_at t i)) is
    ∙ sym (marks_are_read s i))

pub may_be_cut : (count : ℕ) (es : List (BaseId × Instance)) (ms : List (BaseId × Mark)) (s : BasesState) → state_of count es ≡ s → AreWithin (finmap.from_entries ms) s → HaveFewCuts s →
    (i : BaseId) (x : Instance) → found es i ≡ Some x → MayBeCut (marked_at ms i) x
may_be_cut count es ms s is within few i x e =
    let base : base_at s i ≡ x.base = ap (λ t. base_at t i) (sym is) ∙ ap (λ o. option_map_or (λ y. y.base) o empty) (at_table es i ∙ e) in
    (subst (λ b. b.cuts < 2 ^ 63) base (few i), λ m k. subst (λ b. m.count ≤ length b.members) base (within i m (at_marks ms i ∙ k)).1)

pub brought_back : (count : ℕ) (old new : List (BaseId × Instance)) (ms : List (BaseId × Mark)) (s : BasesState) → state_of count old ≡ s → Brings ms old new →
    state_of count new ≡ back_all s (finmap.from_entries ms)
brought_back count old new ms s is h =
    let t = state_of count old in
    let marks : Marks = finmap.from_entries ms in
    let same : finmap.from_entries {R = id_cmp} new ≡ (back_all t marks).instances =
    finmap.same_map id_total same_id _ _ (λ q.
    at_table new q
    ∙ h q
    ∙ (λ i. brought as_cut (sym (at_marks ms q) i) (sym (at_table old q) i))
    ∙ sym (counted_cuts_are_read t marks q))
    in
    (λ k. record { count = count; instances = same k }) ∙ ap (λ u. back_all u marks) is

-- ---- a table of marks that is made of a table of instances

keys_stay : (es : List (BaseId × Instance)) → keys_of (map (λ e. (e.0, mark_of e.1)) es) ≡ keys_of es
keys_stay [] = refl
keys_stay (e ∷ es) = ap (λ l. e.0 ∷ l) (keys_stay es)

pub made : (es : List (BaseId × Instance)) (ms : List (BaseId × Mark)) → IsStrictlySortedBy id_cmp (keys_of es) → ((q : BaseId) → marked_at ms q ≡ update_all (eq_by_cmp id_cmp) (λ _. None) (map (λ e. (e.0, mark_of e.1)) es) q) →
    (i : BaseId) → marked_at ms i ≡ option_map mark_of (found es i)
made es ms sorted h i =
    h i
    ∙ update_all_none (eq_by_cmp_equiv id_total) (eq_by_cmp id_cmp) (λ x y. refl) (map (λ e. (e.0, mark_of e.1)) es) i (subst (λ ks. IsDistinct (eq_by_cmp id_cmp) ks) (sym (keys_stay es)) (IsDistinct-from_sorted id_cmp (keys_of es) sorted))
    ∙ lookup-map_values mark_of (is_at (id_cmp i)) es
