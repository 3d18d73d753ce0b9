-- What a change that is noted leaves of what was kept.
use Rattle.std.proofs.Common.{◌≡◌, ℕ, zero, suc, ◌<◌, ◌≤◌, Bool, true, false, cond, List, [], ◌∷◌, length, drop, refl, ap, sym, ◌∙◌, subst, arith, Some, None}
use Rattle.std.proofs.lemmas.Option.{none-some}
use Rattle.setl_trail.specs.Trail.{Item, entry, mark, mark_count, latest, without_latest, without_mark, forgotten, forgotten_by}
use Rattle.setl_store_environment.proofs.Places.{some_same}
use Rattle.setl_store_environment.specs.Kept.{base_of, nowhere, IsUndoable, noted, noted_by, kept_of}
use Rattle.setl_store_environment.specs.declared.environment.Base.{Base}

-- no more of any list, for a copy of the same number
pub record IsBelow (m n : Base) : Type 0 where
  pub slots : m.slots ≤ n.slots
  pub operands : m.operands ≤ n.operands
  pub activations : m.activations ≤ n.activations
  pub members : m.members ≤ n.members
  pub since : m.since ≡ n.since

below_nowhere : (m n : Base) → IsBelow m n → n ≡ nowhere → m ≡ nowhere
below_nowhere m n less is =
    let slots : m.slots ≡ 0 = omega (arith, less.slots, ap (λ (b : Base). b.slots) is) in
    let operands : m.operands ≡ 0 = omega (arith, less.operands, ap (λ (b : Base). b.operands) is) in
    let activations : m.activations ≡ 0 = omega (arith, less.activations, ap (λ (b : Base). b.activations) is) in
    let members : m.members ≡ 0 = omega (arith, less.members, ap (λ (b : Base). b.members) is) in
    let since : m.since ≡ 0 = omega (arith, less.since, ap (λ (b : Base). b.since) is) in
    ap (λ k. record m { slots = k }) slots ∙ ap (λ k. record m { slots = 0; operands = k }) operands ∙ ap (λ k. record nowhere { activations = k; members = m.members; since = m.since }) activations
    ∙ ap (λ k. record nowhere { members = k; since = m.since }) members ∙ ap (λ k. record nowhere { since = k }) since

module _ {E : Type 0} where
  marks_noted_by : (n : ℕ) (e : E) (items : List (Item E)) → mark_count (noted_by n e items) ≡ mark_count items
  marks_noted_by zero e items = refl
  marks_noted_by (suc n) e items = refl

  -- the trail by what a pop answers
  pub entry_latest : (items : List (Item E)) (e : E) → latest items ≡ Some e → items ≡ entry e ∷ without_latest items
  entry_latest [] e h = absurd (none-some e h)
  entry_latest (entry f ∷ items) e h = ap (λ x. entry x ∷ items) (some_same f e h)
  entry_latest (mark ∷ items) e h = absurd (none-some e h)

  pub mark_latest : (items : List (Item E)) → latest items ≡ None → 0 < mark_count items → items ≡ mark ∷ without_latest items
  mark_latest [] h m = absurd (omega (arith, m))
  mark_latest (entry f ∷ items) h m = absurd (none-some f (sym h))
  mark_latest (mark ∷ items) h m = refl

  -- of the entries above the latest mark, each that doesn't pass the test is spared by what is left below it
  abbrev pub AreSpared : (E → Bool) → (E → List (Item E) → Type 0) → List (Item E) → Type 0
  AreSpared test spare [] = Unit {0}
  AreSpared test spare (entry e ∷ items) = (test e ≡ false → spare e (without_mark test items)) × AreSpared test spare items
  AreSpared test spare (mark ∷ items) = Unit {0}

  pub both_spared : (test : E → Bool) (one other : E → List (Item E) → Type 0) (items : List (Item E)) → AreSpared test one items → AreSpared test other items → AreSpared test (λ e rest. one e rest × other e rest) items
  both_spared test one other [] g h = tt
  both_spared test one other (entry e ∷ items) g h = (λ off. (g.0 off, h.0 off), both_spared test one other items g.1 h.1)
  both_spared test one other (mark ∷ items) g h = tt

module _ {C E : Type 0} (undone : C → E → C) (cut : Base → C → C) where
  module _ (reaches : Base → C → Type 0) where
    module _ (fits : C → E → Type 0) where
      abbrev Leads : Base → C → List (Item E) → List Base → Type 0
      Leads n c items ns = IsUndoable undone cut reaches fits n c items ns

      -- where there is no mark there is no entry
      unmarked : (n : Base) (c : C) (items : List (Item E)) (ns : List Base) → IsUndoable undone cut reaches fits n c items ns → mark_count items ≡ 0 → items ≡ []
      unmarked n c [] ns h none = refl
      unmarked n c (entry e ∷ items) ns h none = absurd (omega (arith, h.0, none))
      unmarked n c (mark ∷ items) ns h none = absurd (omega (arith, none))

      -- and nothing of what is there needs a note
      pub unmarked_base : (n : Base) (c : C) (items : List (Item E)) (ns : List Base) → IsUndoable undone cut reaches fits n c items ns → mark_count items ≡ 0 → n ≡ nowhere
      unmarked_base n c [] ns h none = h
      unmarked_base n c (entry e ∷ items) ns h none = absurd (omega (arith, h.0, none))
      unmarked_base n c (mark ∷ items) ns h none = absurd (omega (arith, none))

      -- under a mark another base does as well
      rebased : (n m : Base) (c : C) (items : List (Item E)) (ns : List Base) → 0 < mark_count items → Leads n c items ns → Leads m c items ns
      rebased n m c [] ns some h = absurd (omega (arith, some))
      rebased n m c (entry e ∷ items) ns some h = (h.0, h.1, rebased n m (undone c e) items ns some h.2)
      rebased n m c (mark ∷ items) ns some h = h

      noted_undoable : (k : ℕ) (n m : Base) (c d : C) (e : E) (items : List (Item E)) (ns : List Base) → mark_count items ≡ k → IsBelow m n → fits d e → undone d e ≡ c → Leads n c items ns → Leads m d (noted_by k e items) ns
      noted_undoable zero n m c d e items ns marks less there back h =
          let base = unmarked_base n c items ns h marks in
          subst (λ l. Leads m d l ns) (sym (unmarked n c items ns h marks)) (below_nowhere m n less base)
      noted_undoable (suc k) n m c d e items ns marks less there back h =
          (omega (arith, marks), there, rebased n m (undone d e) items ns (omega (arith, marks)) (subst (λ b. Leads n b items ns) (sym back) h))

      noted_kept : {K : Type 0} (k : ℕ) (n : Base) (c d : C) (e : E) (items : List (Item E)) (ns : List Base) (ks : List K) → mark_count items ≡ k → undone d e ≡ c → Leads n c items ns → kept_of undone cut d (noted_by k e items) ns ks ≡ kept_of undone cut c items ns ks
      noted_kept zero n c d e items ns ks marks back h =
          let none = unmarked n c items ns h marks in
          ap (λ l. kept_of undone cut d l ns ks) none ∙ sym (ap (λ l. kept_of undone cut c l ns ks) none)
      noted_kept (suc k) n c d e items ns ks marks back h = ap (λ b. kept_of undone cut b items ns ks) back

      -- after a change: each entry can still be put back, and what was kept and the number of marks stay
      pub record Changed {K : Type 0} (m : Base) (c d : C) (items now : List (Item E)) (ns : List Base) (ks : List K) : Type 0 where
        pub undoable : IsUndoable undone cut reaches fits m d now ns
        pub kept : kept_of undone cut d now ns ks ≡ kept_of undone cut c items ns ks
        pub marks : mark_count now ≡ mark_count items

      -- a change that is noted
      pub changed : {K : Type 0} (n m : Base) (c d : C) (e : E) (items now : List (Item E)) (ns : List Base) (ks : List K) → IsBelow m n → fits d e → undone d e ≡ c → now ≡ noted e items → IsUndoable undone cut reaches fits n c items ns → Changed m c d items now ns ks
      changed n m c d e items now ns ks less there back is h =
          subst (λ l. Changed m c d items l ns ks) (sym is) (record {
            undoable = noted_undoable (mark_count items) n m c d e items ns refl less there back h;
            kept = noted_kept (mark_count items) n c d e items ns ks refl back h;
            marks = marks_noted_by (mark_count items) e items;
          })

      -- Contents that are alike, but for what the entries above the latest mark put back. So they lead to the same.
      pub record Agrees (alike : C → C → List (Item E) → Type 0) : Type 0 where
        pub over_entry : (c d : C) (e : E) (items : List (Item E)) → alike c d (entry e ∷ items) → fits c e → fits d e × alike (undone c e) (undone d e) items
        pub at_mark : (c d : C) (items : List (Item E)) → alike c d (mark ∷ items) → c ≡ d

      pub alike_undoable : (alike : C → C → List (Item E) → Type 0) (n : Base) (c d : C) (items : List (Item E)) (ns : List Base) → Agrees alike → alike c d items → IsUndoable undone cut reaches fits n c items ns → IsUndoable undone cut reaches fits n d items ns
      alike_undoable alike n c d [] ns agrees a h = h
      alike_undoable alike n c d (entry e ∷ items) ns agrees a h =
          let next = agrees.over_entry c d e items a h.1 in
          (h.0, next.0, alike_undoable alike n (undone c e) (undone d e) items ns agrees next.1 h.2)
      alike_undoable alike n c d (mark ∷ items) ns agrees a h = subst (λ x. Leads n x (mark ∷ items) ns) (agrees.at_mark c d items a) h

      pub alike_kept : {K : Type 0} (alike : C → C → List (Item E) → Type 0) (n : Base) (c d : C) (items : List (Item E)) (ns : List Base) (ks : List K) → Agrees alike → alike c d items → IsUndoable undone cut reaches fits n c items ns → kept_of undone cut d items ns ks ≡ kept_of undone cut c items ns ks
      alike_kept alike n c d [] ns ks agrees a h = refl
      alike_kept alike n c d (entry e ∷ items) ns ks agrees a h = alike_kept alike n (undone c e) (undone d e) items ns ks agrees (agrees.over_entry c d e items a h.1).1 h.2
      alike_kept alike n c d (mark ∷ items) ns ks agrees a h = ap (λ x. kept_of undone cut x (mark ∷ items) ns ks) (sym (agrees.at_mark c d items a))

      -- What serves over the base k of an older mark, of which at least m is there: an entry that passes the test does there
      -- what it does over more; and one that doesn't changes nothing of it but what the entries that are left put back, if
      -- these spare it.
      pub record Serves (k m : Base) (test : E → Bool) (spare : E → List (Item E) → Type 0) (alike : C → C → List (Item E) → Type 0) : Type 0 where
        pub agrees : Agrees alike
        pub passed : (d : C) (e : E) → test e ≡ true → fits d e → fits (cut k d) e × (undone (cut k d) e ≡ cut k (undone d e))
        pub other : (c d : C) (e : E) (rest : List (Item E)) → test e ≡ false → spare e rest → reaches m c → fits c e → alike (cut k c) d rest → alike (cut k (undone c e)) d rest
        pub grows : (c : C) (e : E) → reaches m c → fits c e → reaches m (undone c e)

      -- after the latest mark was forgotten: each entry that is left can be put back over the older base, and what was kept
      -- before is kept
      pub record Forgot {K : Type 0} (m : Base) (c d : C) (items now : List (Item E)) (ns : List Base) (k : K) (ks : List K) : Type 0 where
        pub undoable : IsUndoable undone cut reaches fits m d now (drop 1 ns)
        pub kept : kept_of undone cut d now (drop 1 ns) ks ≡ drop 1 (kept_of undone cut c items ns (k ∷ ks))
        pub marks : suc (mark_count now) ≡ mark_count items

      module _ (test : E → Bool) (spare : E → List (Item E) → Type 0) (alike : C → C → List (Item E) → Type 0) where
        forgot_entry : {K : Type 0} (b : Bool) (m : Base) (c d : C) (e : E) (items rest : List (Item E)) (ns : List Base) (k : K) (ks : List K) → test e ≡ b → Serves (base_of ns) m test spare alike → (test e ≡ false → spare e rest) → reaches m c → fits c e → 1 < mark_count items →
            alike (cut (base_of ns) c) d (cond b (entry e ∷ rest) rest) → ((x : C) → alike (cut (base_of ns) (undone c e)) x rest → Forgot m (undone c e) x items rest ns k ks) → Forgot m c d (entry e ∷ items) (cond b (entry e ∷ rest) rest) ns k ks
        forgot_entry true m c d e items rest ns k ks is serves spared reach there some a goal =
            let over = serves.passed c e is there in
            let next = serves.agrees.over_entry (cut (base_of ns) c) d e rest a over.0 in
            let h = goal (undone d e) (subst (λ x. alike x (undone d e) rest) over.1 next.1) in
            record { undoable = (omega (arith, some, h.marks), next.0, h.undoable); kept = h.kept; marks = h.marks }
        forgot_entry false m c d e items rest ns k ks is serves spared reach there some a goal =
            let h = goal d (serves.other c d e rest is (spared is) reach there a) in
            record { undoable = h.undoable; kept = h.kept; marks = h.marks }

        -- where an older mark is left
        forgot_among : {K : Type 0} (n m : Base) (c d : C) (items : List (Item E)) (ns : List Base) (k : K) (ks : List K) → Serves (base_of ns) m test spare alike → AreSpared test spare items → 1 < mark_count items → reaches m c → alike (cut (base_of ns) c) d (without_mark test items) → Leads n c items ns → Forgot m c d items (without_mark test items) ns k ks
        forgot_among n m c d [] ns k ks serves spared some reach a h = absurd (omega (arith, some))
        forgot_among n m c d (entry e ∷ items) ns k ks serves spared some reach a h =
            forgot_entry (test e) m c d e items (without_mark test items) ns k ks refl serves spared.0 reach h.1 some a
            (λ x near. forgot_among n m (undone c e) x items ns k ks serves spared.1 some (serves.grows c e reach h.1) near h.2)
        forgot_among n m c d (mark ∷ items) ns k ks serves spared some reach a h = record {
          undoable = rebased (base_of ns) m d items (drop 1 ns) (omega (arith, some)) (alike_undoable alike (base_of ns) (cut (base_of ns) c) d items (drop 1 ns) serves.agrees a h.1);
          kept = alike_kept alike (base_of ns) (cut (base_of ns) c) d items (drop 1 ns) ks serves.agrees a h.1;
          marks = refl;
        }

      -- where none is left, nothing is kept and nothing needs a note
      last_base : (n : Base) (c : C) (items : List (Item E)) (ns : List Base) → mark_count items ≡ 1 → Leads n c items ns → base_of ns ≡ nowhere
      last_base n c [] ns one h = absurd (omega (arith, one))
      last_base n c (entry e ∷ items) ns one h = last_base n (undone c e) items ns one h.2
      last_base n c (mark ∷ items) ns one h = unmarked_base (base_of ns) (cut (base_of ns) c) items (drop 1 ns) h.1 (omega (arith, one))

      last_kept : {K : Type 0} (n : Base) (c : C) (items : List (Item E)) (ns : List Base) (k : K) (ks : List K) → mark_count items ≡ 1 → Leads n c items ns → [] ≡ drop 1 (kept_of undone cut c items ns (k ∷ ks))
      last_kept n c [] ns k ks one h = absurd (omega (arith, one))
      last_kept n c (entry e ∷ items) ns k ks one h = last_kept n (undone c e) items ns k ks one h.2
      last_kept n c (mark ∷ items) ns k ks one h =
          sym (ap (λ l. kept_of undone cut (cut (base_of ns) c) l (drop 1 ns) ks) (unmarked (base_of ns) (cut (base_of ns) c) items (drop 1 ns) h.1 (omega (arith, one))))

      forgot_by : {K : Type 0} (x : ℕ) (n m : Base) (c d : C) (items : List (Item E)) (ns : List Base) (test : E → Bool) (spare : E → List (Item E) → Type 0) (alike : C → C → List (Item E) → Type 0) (k : K) (ks : List K) → mark_count items ≡ x → 0 < x → IsBelow m (base_of ns) →
          Serves (base_of ns) m test spare alike → (1 < mark_count items → AreSpared test spare items) → reaches m c → alike (cut (base_of ns) c) d (without_mark test items) → Leads n c items ns → Forgot m c d items (forgotten_by x test items) ns k ks
      forgot_by zero n m c d items ns test spare alike k ks count some less serves spared reach a h = absurd (omega (arith, some))
      forgot_by (suc zero) n m c d items ns test spare alike k ks count some less serves spared reach a h = record {
        undoable = below_nowhere m (base_of ns) less (last_base n c items ns count h);
        kept = last_kept n c items ns k ks count h;
        marks = sym count;
      }
      forgot_by (suc (suc x)) n m c d items ns test spare alike k ks count some less serves spared reach a h = forgot_among test spare alike n m c d items ns k ks serves (spared (omega (arith, count))) (omega (arith, count)) reach a h

      pub forgot : {K : Type 0} (n m : Base) (c d : C) (items now : List (Item E)) (ns : List Base) (test : E → Bool) (spare : E → List (Item E) → Type 0) (alike : C → C → List (Item E) → Type 0) (k : K) (ks : List K) → 0 < mark_count items → IsBelow m (base_of ns) →
          Serves (base_of ns) m test spare alike → (1 < mark_count items → AreSpared test spare items) → reaches m c → alike (cut (base_of ns) c) d (without_mark test items) → now ≡ forgotten test items → IsUndoable undone cut reaches fits n c items ns → Forgot m c d items now ns k ks
      forgot n m c d items now ns test spare alike k ks some less serves spared reach a is h =
          subst (λ l. Forgot m c d items l ns k ks) (sym is) (forgot_by (mark_count items) n m c d items ns test spare alike k ks refl some less serves spared reach a h)

    -- what fits less fits more
    pub undoable_still : (fits more : C → E → Type 0) (n : Base) (c : C) (items : List (Item E)) (ns : List Base) → ((d : C) (e : E) → fits d e → more d e) → IsUndoable undone cut reaches fits n c items ns → IsUndoable undone cut reaches more n c items ns
    undoable_still fits more n c [] ns wider h = h
    undoable_still fits more n c (entry e ∷ items) ns wider h = (h.0, wider c e h.1, undoable_still fits more n (undone c e) items ns wider h.2)
    undoable_still fits more n c (mark ∷ items) ns wider h = (h.0, undoable_still fits more (base_of ns) (cut (base_of ns) c) items (drop 1 ns) wider h.1)

  -- as many are kept as there are marks
  pub kept_counted : {K : Type 0} (c : C) (items : List (Item E)) (ns : List Base) (ks : List K) → mark_count items ≡ length ks → length (kept_of undone cut c items ns ks) ≡ mark_count items
  kept_counted c [] ns ks h = refl
  kept_counted c (entry e ∷ items) ns ks h = kept_counted (undone c e) items ns ks h
  kept_counted c (mark ∷ items) ns [] h = absurd (omega (arith, h))
  kept_counted c (mark ∷ items) ns (k ∷ ks) h = ap suc (kept_counted (cut (base_of ns) c) items (drop 1 ns) ks (omega (arith, h)))

  -- with no record nothing is kept
  pub none_kept : (K : Type 0) (c : C) (items : List (Item E)) (ns : List Base) → kept_of {K = K} undone cut c items ns [] ≡ []
  none_kept K c [] ns = refl
  none_kept K c (entry e ∷ items) ns = none_kept K (undone c e) items ns
  none_kept K c (mark ∷ items) ns = refl

pub no_items : {T : Type 0} (xs : List T) (n : ℕ) → n ≡ length xs → n ≡ 0 → xs ≡ []
no_items [] n h e = refl
no_items (x ∷ xs) n h e = absurd (omega (arith, h, e))
