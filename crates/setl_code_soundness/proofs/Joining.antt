-- How code with shapes and heights is put together.
use Rattle.std.proofs.Common.{◌≡◌, ◌<◌, ◌≤◌, ℕ, suc, ◌+◌, true, List, [], ◌∷◌, ◌++◌, length, Option, Some, refl, ap, arith, length-append}
use Rattle.setl_program.specs.declared.kinds.Connective.{Connective}
use Rattle.setl_program.specs.Program.{Begin, Members, Points}
use Rattle.setl_code.specs.Code.{Instr, Jump, Unless, Decides, NextOr, PayRound, Body}
use Rattle.setl_code.specs.Piece.{past, Labels, Laid, ◌⨾◌, nothing, one, jumps_out, jumps_on, over, either, ending, going_on, leaving, with_end, with_start}
use Rattle.setl_code.specs.Shapes.{AResult, Shape, all_serve, outs, free_successors, iterator_kind}
use Rattle.setl_code.specs.Sound.{is_fine, says, shape_at, StaysBelow, height_at, AllLower}
use Rattle.setl_code_soundness.proofs.Laying.{both, Entry, entry, shapes, heights, Lies, lies_first, lies_next, Leads, raised, serving, moved, said, lower, Wants, raised_want, Around, raised_all, IsNoTake, Each, Fine, Checked, first_at}

-- an item of an iterator lies on the operands
abbrev pub with_item : Begin → Shape → Shape
with_item (Members k) s = AResult ∷ s
with_item Points s = AResult ∷ AResult ∷ s

module _ {bs : List Body} {n : ℕ} where
  -- ---- one after the other

  pub no_code : {x y z : Option Shape} {s : Shape} → Checked bs n x y z (λ a. nothing) s (Some s)
  no_code = record {
    size = 0;
    entries = λ h. [];
    counts = λ h. refl;
    places = λ a at. omega arith;
    good = λ T l a at h lies around next. (raised (h + 0) (omega arith) next, tt);
  }

  pub then_ : {x y z : Option Shape} {f g : ℕ → Laid} {s t : Shape} {o : Option Shape} → Checked bs n x y z f s (Some t) → Checked bs n x y z g t o → Checked bs n x y z (λ a. f a ⨾ g a) s o
  then_ {x = x} {y = y} {z = z} {f = f} {g = g} {s = s} {t = t} {o = o} p q = record {
    size = p.size + q.size;
    entries = λ h. p.entries (h + q.size) ++ q.entries h;
    counts = λ h. (let c1 = p.counts (h + q.size) in let c2 = q.counts h in let c3 = length-append (p.entries (h + q.size)) (q.entries h) in omega arith);
    places = λ a at. (let p1 = p.places a at in let p2 = q.places a (past at (f a at)) in omega arith);
    good = good;
  }
    where
      good : (T : List Entry) (l : Labels) (a at h : ℕ) → Lies T at (p.entries (h + q.size) ++ q.entries h) → Around x y z T l a h → Wants T o (past (past at (f a at)) (g a (past at (f a at)))) h → Leads T at s (h + (p.size + q.size)) × Each (Fine bs n T) l at ((f a ⨾ g a) at)
      good T l a at h lies around next =
          let there : past at (f a at) ≡ at + length (p.entries (h + q.size)) = (let p1 = p.places a at in let c1 = p.counts (h + q.size) in omega arith) in
          let later = q.good T l a (past at (f a at)) h (lies_next T at (past at (f a at)) (p.entries (h + q.size)) (q.entries h) there lies) around next in
          let up : h ≤ h + q.size = omega arith in
          let first = p.good T l a at (h + q.size) (lies_first T at (p.entries (h + q.size)) (q.entries h) lies) (raised_all T l a h x y z (h + q.size) up around) later.0 in
          let high : h + q.size + p.size ≤ h + (p.size + q.size) = omega arith in
          (raised (h + (p.size + q.size)) high first.0, (first.1, later.1))

  -- ---- single steps

  -- code of one step, which may name a place
  alone : {x y z : Option Shape} {s : Shape} {o : Option Shape} (line : ℕ) (f : ℕ → Laid) (i : Labels → ℕ → Instr) → ((a at : ℕ) → past at (f a at) ≡ suc at) → ((T : List Entry) (l : Labels) (a at : ℕ) → Fine bs n T at line (i l a) → Each (Fine bs n T) l at (f a at)) → ((T : List Entry) (l : Labels) (a at h : ℕ) → Around x y z T l a h → Wants T o (past at (f a at)) h → (is_fine (shapes T) (outs bs (i l a) (suc at) s) ≡ true) × AllLower (heights T) (suc h) (free_successors (i l a) (suc at))) → ((l : Labels) (a : ℕ) → StaysBelow n (i l a) × IsNoTake (i l a)) → Checked bs n x y z f s o
  alone {s = s} line f i behind each leads plain = record {
    size = 1;
    entries = λ h. entry s (suc h) ∷ [];
    counts = λ h. refl;
    places = λ a at. (let p1 = behind a at in omega arith);
    good = λ T l a at h lies around next.
        (let fine = leads T l a at h around next in
        (first_at s lies.0 (omega arith), each T l a at (record { entry = entry s (suc h); is = lies.0; keeps = fine.0; falls = fine.1; below = (plain l a).0; no_take = (plain l a).1 })));
  }

  -- a step that goes on at the next one
  pub goes : {x y z : Option Shape} {s : Shape} {t : Shape} {line : ℕ} (i : Instr) → ((at : ℕ) → outs bs i at s ≡ Some ((at, t) ∷ [])) → ((hs : List ℕ) (h at : ℕ) → height_at hs at < h → AllLower hs h (free_successors i at)) → StaysBelow n i → IsNoTake i → Checked bs n x y z (λ a. one line i) s (Some t)
  goes {line = line} i leads falls stays plain =
      alone line (λ a. one line i) (λ l a. i) (λ a at. refl) (λ T l a at fine. fine)
      (λ T l a at h around next. (rw (leads (suc at)) (both _ true (said next) refl), falls (heights T) (suc h) (suc at) (lower next (omega arith))))
      (λ l a. (stays, plain))

  -- a step behind which nothing comes
  pub stops : {x y z : Option Shape} {s : Shape} {o : Option Shape} {line : ℕ} (i : Instr) → ((at : ℕ) → outs bs i at s ≡ Some []) → ((at : ℕ) → free_successors i at ≡ []) → StaysBelow n i → IsNoTake i → Checked bs n x y z (λ a. one line i) s o
  stops {line = line} i leads falls stays plain =
      alone line (λ a. one line i) (λ l a. i) (λ a at. refl) (λ T l a at fine. fine)
      (λ T l a at h around next. (rw (leads (suc at)) refl, rw (falls (suc at)) tt))
      (λ l a. (stays, plain))

  -- ---- jumps

  pub jumps : {x y : Option Shape} {s : Shape} {o : Option Shape} {line : ℕ} → Checked bs n x y (Some s) (λ a. one line (Jump a)) s o
  jumps {line = line} =
      alone line (λ a. one line (Jump a)) (λ l a. Jump a) (λ a at. refl) (λ T l a at fine. fine)
      (λ T l a at h around next. (both _ true (said around.2) refl, (lower around.2 (omega arith), tt)))
      (λ l a. (tt, tt))

  pub jumps_behind : {y z : Option Shape} {s : Shape} {o : Option Shape} {line : ℕ} → Checked bs n (Some s) y z (λ a. jumps_out line) s o
  jumps_behind {line = line} =
      alone line (λ a. jumps_out line) (λ l a. Jump l.exit) (λ a at. refl) (λ T l a at fine. fine)
      (λ T l a at h around next. (both _ true (said around.0) refl, (lower around.0 (omega arith), tt)))
      (λ l a. (tt, tt))

  pub jumps_again : {x z : Option Shape} {s : Shape} {o : Option Shape} {line : ℕ} → Checked bs n x (Some s) z (λ a. jumps_on line) s o
  jumps_again {line = line} =
      alone line (λ a. jumps_on line) (λ l a. Jump l.again) (λ a at. refl) (λ T l a at fine. fine)
      (λ T l a at h around next. (both _ true (said around.1) refl, (lower around.1 (omega arith), tt)))
      (λ l a. (tt, tt))

  -- a condition that goes back where it doesn't hold
  pub unless : {x y : Option Shape} {s : Shape} {line : ℕ} → Checked bs n x y (Some s) (λ a. one line (Unless a)) (AResult ∷ s) (Some s)
  unless {line = line} =
      alone line (λ a. one line (Unless a)) (λ l a. Unless a) (λ a at. refl) (λ T l a at fine. fine)
      (λ T l a at h around next. (both _ _ (said next) (both _ true (said around.2) refl), (lower next (omega arith), (lower around.2 (omega arith), tt))))
      (λ l a. (tt, tt))

  -- a step that goes on at the next one or behind the code that follows
  over_ : {x y z : Option Shape} {t w : Shape} {f : ℕ → Laid} {line : ℕ} (s : Shape) (i : ℕ → Instr) → ((T : List Entry) (at to k : ℕ) → says (shape_at (shapes T) at) t ≡ true → height_at (heights T) at < k → says (shape_at (shapes T) to) w ≡ true → height_at (heights T) to < k → (is_fine (shapes T) (outs bs (i to) at s) ≡ true) × AllLower (heights T) k (free_successors (i to) at)) → ((to : ℕ) → StaysBelow n (i to) × IsNoTake (i to)) → Checked bs n x y z f t (Some w) → Checked bs n x y z (λ a. over line i (f a)) s (Some w)
  over_ {f = f} {line = line} s i leads plain p = record {
    size = suc p.size;
    entries = λ h. entry s (suc (h + p.size)) ∷ p.entries h;
    counts = λ h. ap suc (p.counts h);
    places = λ a at. (let p1 = p.places a (suc at) in omega arith);
    good = λ T l a at h lies around next.
        (let inner = p.good T l a (suc at) h lies.1 around next in
        let to = past (suc at) (f a (suc at)) in
        let fine = leads T (suc at) to (suc (h + p.size)) (said inner.0) (lower inner.0 (omega arith)) (said next) (lower next (omega arith)) in
        (first_at s lies.0 (omega arith), (record { entry = entry s (suc (h + p.size)); is = lies.0; keeps = fine.0; falls = fine.1; below = (plain to).0; no_take = (plain to).1 }, inner.1)));
  }

  -- a condition behind whose code both ways meet
  pub over_unless : {x y z : Option Shape} {s : Shape} {f : ℕ → Laid} {line : ℕ} → Checked bs n x y z f s (Some s) → Checked bs n x y z (λ a. over line Unless (f a)) (AResult ∷ s) (Some s)
  over_unless {s = s} p = over_ (AResult ∷ s) Unless (λ T at to m one low two down. (both _ _ one (both _ true two refl), (low, (down, tt)))) (λ to. (tt, tt)) p

  -- a connective, whose right part is left where the left one decides
  pub over_decides : {x y z : Option Shape} {s : Shape} {f : ℕ → Laid} {line : ℕ} (k : Connective) → Checked bs n x y z f s (Some (AResult ∷ s)) → Checked bs n x y z (λ a. over line (Decides k) (f a)) (AResult ∷ s) (Some (AResult ∷ s))
  over_decides {s = s} k p = over_ (AResult ∷ s) (Decides k) (λ T at to m one low two down. (both _ _ one (both _ true two refl), (low, (down, tt)))) (λ to. (tt, tt)) p

  -- a choice whose two ways meet behind it
  pub chooses : {x y z : Option Shape} {s t : Shape} {f g : ℕ → Laid} {line : ℕ} → Checked bs n x y z f s (Some t) → Checked bs n x y z g s (Some t) → Checked bs n x y z (λ a. either line (f a) (g a)) (AResult ∷ s) (Some t)
  chooses {x = x} {y = y} {z = z} {s = s} {t = t} {f = f} {g = g} {line = line} p q = record {
    size = suc (p.size + suc q.size);
    entries = λ h. entry (AResult ∷ s) (suc (suc (h + q.size) + p.size)) ∷ (p.entries (suc (h + q.size)) ++ (entry t (suc (h + q.size)) ∷ q.entries h));
    counts = λ h. (let c1 = p.counts (suc (h + q.size)) in let c2 = q.counts h in let c3 = length-append (p.entries (suc (h + q.size))) (entry t (suc (h + q.size)) ∷ q.entries h) in omega arith);
    places = λ a at. (let p1 = p.places a (suc at) in let p2 = q.places a (suc (past (suc at) (f a (suc at)))) in omega arith);
    good = good;
  }
    where
      good : (T : List Entry) (l : Labels) (a at h : ℕ) → Lies T at (entry (AResult ∷ s) (suc (suc (h + q.size) + p.size)) ∷ (p.entries (suc (h + q.size)) ++ (entry t (suc (h + q.size)) ∷ q.entries h))) → Around x y z T l a h → Wants T (Some t) (past at (either line (f a) (g a) at)) h → Leads T at (AResult ∷ s) (h + suc (p.size + suc q.size)) × Each (Fine bs n T) l at (either line (f a) (g a) at)
      good T l a at h lies around next =
          let high : ℕ = suc (h + q.size) in
          let end = past (suc at) (f a (suc at)) in
          let there : end ≡ suc at + length (p.entries high) = (let p1 = p.places a (suc at) in let c1 = p.counts high in omega arith) in
          let behind = lies_next T (suc at) end (p.entries high) (entry t high ∷ q.entries h) there lies.1 in
          let second = q.good T l a (suc end) h behind.1 around next in
          let up : h ≤ high = omega arith in
          let jump : Leads T end t high = first_at t behind.0 (omega arith) in
          let first = p.good T l a (suc at) high (lies_first T (suc at) (p.entries high) (entry t high ∷ q.entries h) lies.1) (raised_all T l a h x y z high up around) jump in
          let top : Fine bs n T at line (Unless (suc end)) = record {
            entry = entry (AResult ∷ s) (suc (high + p.size));
            is = lies.0;
            keeps = both _ _ (said first.0) (both _ true (said second.0) refl);
            falls = (lower first.0 (omega arith), (lower second.0 (omega arith), tt));
            below = tt;
            no_take = tt;
          } in
          let over : Fine bs n T end line (Jump (past (suc end) (g a (suc end)))) = record {
            entry = entry t high;
            is = behind.0;
            keeps = both _ true (said next) refl;
            falls = (lower next (omega arith), tt);
            below = tt;
            no_take = tt;
          } in
          (first_at (AResult ∷ s) lies.0 (omega arith), (top, (first.1, (over, second.1))))

  -- ---- loops

  -- code that the jump out leaves at its end
  pub ends_there : {x y z : Option Shape} {s t : Shape} {f : ℕ → Laid} → Checked bs n (Some t) y z f s (Some t) → Checked bs n x y z (λ a. ending (f a)) s (Some t)
  ends_there p = record {
    size = p.size;
    entries = p.entries;
    counts = p.counts;
    places = p.places;
    good = λ T l a at h lies around next. p.good T (record l { exit = _ }) a at h lies (next, around.1, around.2) next;
  }

  -- code in which the jump on leads to the place that is named
  pub goes_on : {x y : Option Shape} {s t : Shape} {o : Option Shape} {f : ℕ → Laid} → Checked bs n x (Some t) (Some t) f s o → Checked bs n x y (Some t) (λ a. going_on a (f a)) s o
  goes_on p = record {
    size = p.size;
    entries = p.entries;
    counts = p.counts;
    places = p.places;
    good = λ T l a at h lies around next. p.good T (record l { again = a }) a at h lies (around.0, around.2, around.2) next;
  }

  -- code that names its own end
  pub names_end : {x y z : Option Shape} {s t u : Shape} {f : ℕ → Laid} → all_serve u t ≡ true → Checked bs n x y (Some u) f s (Some t) → Checked bs n x y z (λ a. with_end f) s (Some t)
  names_end {u = u} {f = f} serves p = record {
    size = p.size;
    entries = p.entries;
    counts = p.counts;
    places = λ a at. p.places (past at (f 0 at)) at;
    good = λ T l a at h lies around next.
        (let same : past at (f (past at (f 0 at)) at) ≡ past at (f 0 at) = (let p1 = p.places (past at (f 0 at)) at in let p2 = p.places 0 at in omega arith) in
        p.good T l (past at (f 0 at)) at h lies (around.0, around.1, moved same (serving u serves next)) next);
  }

  -- code that is left at its end or, by the jump out, behind the code that follows
  pub leaves : {x y z : Option Shape} {s t u : Shape} {f g : ℕ → Laid} → Checked bs n (Some t) y z f s (Some u) → Checked bs n x y z g u (Some t) → Checked bs n x y z (λ a. leaving (f a) (g a)) s (Some t)
  leaves {x = x} {y = y} {z = z} {s = s} {t = t} {u = u} {f = f} {g = g} p q = record {
    size = p.size + q.size;
    entries = λ h. p.entries (h + q.size) ++ q.entries h;
    counts = λ h. (let c1 = p.counts (h + q.size) in let c2 = q.counts h in let c3 = length-append (p.entries (h + q.size)) (q.entries h) in omega arith);
    places = λ a at. (let p1 = p.places a at in let p2 = q.places a (past at (f a at)) in omega arith);
    good = good;
  }
    where
      good : (T : List Entry) (l : Labels) (a at h : ℕ) → Lies T at (p.entries (h + q.size) ++ q.entries h) → Around x y z T l a h → Wants T (Some t) (past at (leaving (f a) (g a) at)) h → Leads T at s (h + (p.size + q.size)) × Each (Fine bs n T) l at (leaving (f a) (g a) at)
      good T l a at h lies around next =
          let end = past at (f a at) in
          let there : end ≡ at + length (p.entries (h + q.size)) = (let p1 = p.places a at in let c1 = p.counts (h + q.size) in omega arith) in
          let later = q.good T l a end h (lies_next T at end (p.entries (h + q.size)) (q.entries h) there lies) around next in
          let up : h ≤ h + q.size = omega arith in
          let outer : Around (Some t) y z T (record l { exit = past end (g a end) }) a (h + q.size) = (raised (h + q.size) up next, raised_want T l.again h y (h + q.size) up around.1, raised_want T a h z (h + q.size) up around.2) in
          let first = p.good T (record l { exit = past end (g a end) }) a at (h + q.size) (lies_first T at (p.entries (h + q.size)) (q.entries h) lies) outer later.0 in
          let high : h + q.size + p.size ≤ h + (p.size + q.size) = omega arith in
          (raised (h + (p.size + q.size)) high first.0, (first.1, later.1))

  -- an iterator at its next step: at its end it leads to the place that is named, and what is inside may go back to it
  pub goes_round : {x y : Option Shape} {u : Shape} {o : Option Shape} {f : ℕ → Laid} {line : ℕ} (k : Begin) → Checked bs n x y (Some (iterator_kind k ∷ u)) f (with_item k (iterator_kind k ∷ u)) o → Checked bs n x y (Some u) (λ a. with_start (λ here. one line (NextOr a) ⨾ f here)) (iterator_kind k ∷ u) o
  goes_round {x = x} {y = y} {u = u} {o = o} {f = f} {line = line} k p = record {
    size = suc p.size;
    entries = λ h. entry (iterator_kind k ∷ u) (suc h) ∷ p.entries (suc h);
    counts = λ h. ap suc (p.counts (suc h));
    places = λ a at. (let p1 = p.places at (suc at) in omega arith);
    good = good;
  }
    where
      good : (T : List Entry) (l : Labels) (a at h : ℕ) → Lies T at (entry (iterator_kind k ∷ u) (suc h) ∷ p.entries (suc h)) → Around x y (Some u) T l a h → Wants T o (past (suc at) (f at (suc at))) h → Leads T at (iterator_kind k ∷ u) (h + suc p.size) × Each (Fine bs n T) l at ((one line (NextOr a) ⨾ f at) at)
      good T l a at h lies around next =
          let up : h ≤ suc h = omega arith in
          let here : Leads T at (iterator_kind k ∷ u) (suc h) = first_at (iterator_kind k ∷ u) lies.0 (omega arith) in
          let inner = p.good T l at (suc at) (suc h) lies.1 (raised_want T l.exit h x (suc h) up around.0, raised_want T l.again h y (suc h) up around.1, here) (raised_want T (past (suc at) (f at (suc at))) h o (suc h) up next) in
          let top : Fine bs n T at line (NextOr a) = record {
            entry = entry (iterator_kind k ∷ u) (suc h);
            is = lies.0;
            keeps = kept k (said inner.0) (said around.2);
            falls = (lower around.2 (omega arith), tt);
            below = tt;
            no_take = tt;
          } in
          (raised (h + suc p.size) (omega arith) here, (top, inner.1))
        where
          kept : (k : Begin) → says (shape_at (shapes T) (suc at)) (with_item k (iterator_kind k ∷ u)) ≡ true → says (shape_at (shapes T) a) u ≡ true → is_fine (shapes T) (outs bs (NextOr a) (suc at) (iterator_kind k ∷ u)) ≡ true
          kept (Members k) one two = both _ _ one (both _ true two refl)
          kept Points one two = both _ _ one (both _ true two refl)

  -- a loop by a condition, which takes a turn each time
  pub goes_while : {x y z : Option Shape} {v : Shape} {e f : Laid} {line : ℕ} → Checked bs n (Some v) y z (λ a. e) v (Some (AResult ∷ v)) → Checked bs n (Some v) (Some v) z (λ a. f) v (Some v) → Checked bs n x y z (λ a. ending (with_start (λ w. e ⨾ over line Unless (one line PayRound ⨾ going_on w f ⨾ one line (Jump w))))) v (Some v)
  goes_while {x = x} {y = y} {z = z} {v = v} {e = e} {f = f} {line = line} p q = record {
    size = p.size + suc (suc (q.size + 1));
    entries = all;
    counts = λ h. (let c1 = p.counts (suc (suc h)) in let c2 = q.counts (suc (suc (suc h)) + p.size) in let c3 = length-append (p.entries (suc (suc h))) (after h) in let c4 = length-append (q.entries (suc (suc (suc h)) + p.size)) (entry v (suc (suc (suc h)) + p.size) ∷ []) in omega arith);
    places = λ a at. (let p1 = p.places a at in let p2 = q.places a (suc (suc (past at (e at)))) in omega arith);
    good = good;
  }
    where
      high : ℕ → ℕ
      high h = suc (suc (suc h)) + p.size

      after : ℕ → List Entry
      after h = entry (AResult ∷ v) (suc (suc h)) ∷ entry v (suc h) ∷ (q.entries (suc (suc (suc h)) + p.size) ++ (entry v (suc (suc (suc h)) + p.size) ∷ []))

      all : ℕ → List Entry
      all h = p.entries (suc (suc h)) ++ after h

      code : Laid
      code = ending (with_start (λ w. e ⨾ over line Unless (one line PayRound ⨾ going_on w f ⨾ one line (Jump w))))

      good : (T : List Entry) (l : Labels) (a at h : ℕ) → Lies T at (all h) → Around x y z T l a h → Wants T (Some v) (past at (code at)) h → Leads T at v (h + (p.size + suc (suc (q.size + 1)))) × Each (Fine bs n T) l at (code at)
      good T l a at h lies around next =
          let test = past at (e at) in
          let body = suc (suc test) in
          let back = past body (f body) in
          let end = suc back in
          let low : ℕ = suc (suc h) in
          let there : test ≡ at + length (p.entries low) = (let p1 = p.places a at in let c1 = p.counts low in omega arith) in
          let behind = lies_next T at test (p.entries low) (after h) there lies in
          let inner = behind.1.1 in
          let there2 : back ≡ body + length (q.entries (high h)) = (let p2 = q.places a body in let c2 = q.counts (high h) in omega arith) in
          let last = lies_next T body back (q.entries (high h)) (entry v (high h) ∷ []) there2 inner in
          let up1 : h ≤ low = omega arith in
          let up2 : h ≤ high h = omega arith in
          let start_up : low + p.size ≤ high h = omega arith in
          let all_up : low + p.size ≤ h + (p.size + suc (suc (q.size + 1))) = omega arith in
          let tests : Leads T test (AResult ∷ v) low = first_at (AResult ∷ v) behind.0 (omega arith) in
          let first = p.good T (record l { exit = end }) a at low (lies_first T at (p.entries low) (after h) lies) (raised low up1 next, raised_want T l.again h y low up1 around.1, raised_want T a h z low up1 around.2) tests in
          let jump : Leads T back v (high h) = first_at v last.0 (omega arith) in
          let loops : Labels = record { exit = end; again = at } in
          let second = q.good T loops a body (high h) (lies_first T body (q.entries (high h)) (entry v (high h) ∷ []) inner) (raised (high h) up2 next, raised (high h) start_up first.0, raised_want T a h z (high h) up2 around.2) jump in
          let pays : Leads T (suc test) v (suc h) = first_at v behind.1.0 (omega arith) in
          let unless_ : Fine bs n T test line (Unless end) = record {
            entry = entry (AResult ∷ v) low;
            is = behind.0;
            keeps = both _ _ (said pays) (both _ true (said next) refl);
            falls = (lower pays (omega arith), (lower next (omega arith), tt));
            below = tt;
            no_take = tt;
          } in
          let round : Fine bs n T (suc test) line PayRound = record {
            entry = entry v (suc h);
            is = behind.1.0;
            keeps = both _ true (said second.0) refl;
            falls = tt;
            below = tt;
            no_take = tt;
          } in
          let over_ : Fine bs n T back line (Jump at) = record {
            entry = entry v (high h);
            is = last.0;
            keeps = both _ true (said first.0) refl;
            falls = (lower first.0 (omega arith), tt);
            below = tt;
            no_take = tt;
          } in
          (raised (h + (p.size + suc (suc (q.size + 1)))) all_up first.0, (first.1, (unless_, (round, (second.1, over_)))))
