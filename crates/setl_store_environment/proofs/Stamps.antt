-- What stamps tell while a trail grows, is led back and forgets a mark.
use Rattle.std.proofs.Common.{◌≡◌, ℕ, zero, suc, ◌+◌, ◌<◌, ◌≤◌, Bool, true, false, cond, ltb, ◌||◌, is_some, List, [], ◌∷◌, get_or, drop, refl, ap, sym, ◌∙◌, subst, arith, Option, Some, None, ◌⊎◌, inl, inr}
use Rattle.std.specs.Option.{unwrap_or}
use Rattle.std.specs.Prelude.{eqb}
use Rattle.std.proofs.lemmas.Bool.{ltb-true, ltb-false, eqb-true, eqb-false}
use Rattle.setl_trail.specs.Trail.{Item, entry, mark, mark_count, without_mark, forgotten, forgotten_by}
use Rattle.setl_store_environment.specs.Kept.{base_of, noted, noted_by}
use Rattle.setl_store_environment.specs.Stamps.{is_noted, Tells, IsStamped}
use Rattle.setl_store_environment.specs.declared.environment.Base.{Base}
use Rattle.setl_store_environment.proofs.Undoing.{AreSpared}

-- what an entry puts back, over two stamps
unwrap_less : (o : Option ℕ) (r s : ℕ) → r ≤ s → unwrap_or o r ≤ unwrap_or o s
unwrap_less (Some k) r s h = omega arith
unwrap_less None r s h = h

unwrap_below : (o : Option ℕ) (c s : ℕ) → unwrap_or o 0 < c → s < c → unwrap_or o s < c
unwrap_below (Some k) c s there before = there
unwrap_below None c s there before = before

by_stamp : (P : ℕ → Type 0) (o : Option ℕ) (s u : ℕ) → P (unwrap_or o s) → (o ≡ None → P u) → P (unwrap_or o u)
by_stamp P (Some k) s u h none = h
by_stamp P None s u h none = none refl

related : (o : Option ℕ) (u s since : ℕ) → (u ≤ s) ⊎ (since ≤ s) → (unwrap_or o u ≤ unwrap_or o s) ⊎ (since ≤ unwrap_or o s)
related (Some k) u s since h = inl (omega arith)
related None u s since h = h

past_related : (o : Option ℕ) (u s since : ℕ) → ((k : ℕ) → o ≡ Some k → since ≤ k) → (u ≤ s) ⊎ (since ≤ s) → (u ≤ unwrap_or o s) ⊎ (since ≤ unwrap_or o s)
past_related (Some k) u s since high h = inr (high k refl)
past_related None u s since high h = h

entry_noted : (o : Option ℕ) (b : Bool) → (o ≡ None → b ≡ true) → (is_some o || b) ≡ true
entry_noted (Some k) b h = refl
entry_noted None b h = h refl

module _ {E : Type 0} where
  pub entry_on : (k : ℕ) (e : E) (items : List (Item E)) → 0 < k → noted_by k e items ≡ entry e ∷ items
  entry_on zero e items some = absurd (omega (arith, some))
  entry_on (suc k) e items some = refl

module _ {E : Type 0} (stamp_of : E → ℕ → Option ℕ) (height : Base → ℕ) where
  since_before : (clock at s : ℕ) (items : List (Item E)) (n : Base) (ns : List Base) → Tells stamp_of height clock at s items n ns → n.since < clock
  since_before clock at s [] n ns h = h
  since_before clock at s (entry e ∷ items) n ns h = since_before clock at (unwrap_or (stamp_of e at) s) items n ns h.1
  since_before clock at s (mark ∷ items) n ns h = h.0

  -- under a mark the base below has its number from before the clock, too
  older_before : (clock at s : ℕ) (items : List (Item E)) (n : Base) (ns : List Base) → 0 < mark_count items → Tells stamp_of height clock at s items n ns → (base_of ns).since < clock
  older_before clock at s [] n ns some h = absurd (omega (arith, some))
  older_before clock at s (entry e ∷ items) n ns some h = older_before clock at (unwrap_or (stamp_of e at) s) items n ns some h.1
  older_before clock at s (mark ∷ items) n ns some h = since_before clock at s items (base_of ns) (drop 1 ns) (h.2 s (λ low. omega arith))

  -- an older stamp tells no less
  tells_less : (clock at r s : ℕ) (items : List (Item E)) (n : Base) (ns : List Base) → r ≤ s → Tells stamp_of height clock at s items n ns → Tells stamp_of height clock at r items n ns
  tells_less clock at r s [] n ns less h = h
  tells_less clock at r s (entry e ∷ items) n ns less h =
      (h.0, tells_less clock at (unwrap_or (stamp_of e at) r) (unwrap_or (stamp_of e at) s) items n ns (unwrap_less (stamp_of e at) r s less) h.1)
  tells_less clock at r s (mark ∷ items) n ns less h = (h.0, λ low. omega (arith, less, h.1 low), λ q up. h.2 q (λ low. omega (arith, less, up low)))

  -- nor under a lower base
  tells_lower : (clock at s : ℕ) (items : List (Item E)) (n m : Base) (ns : List Base) → height m ≤ height n → m.since ≡ n.since → Tells stamp_of height clock at s items n ns → Tells stamp_of height clock at s items m ns
  tells_lower clock at s [] n m ns less since h = omega (arith, since, h)
  tells_lower clock at s (entry e ∷ items) n m ns less since h = (h.0, tells_lower clock at (unwrap_or (stamp_of e at) s) items n m ns less since h.1)
  tells_lower clock at s (mark ∷ items) n m ns less since h = (omega (arith, since, h.0), λ low. omega (arith, since, h.1 (omega (arith, low, less))), h.2)

  -- nor later
  tells_later : (clock later at s : ℕ) (items : List (Item E)) (n : Base) (ns : List Base) → clock ≤ later → Tells stamp_of height clock at s items n ns → Tells stamp_of height later at s items n ns
  tells_later clock later at s [] n ns less h = omega (arith, less, h)
  tells_later clock later at s (entry e ∷ items) n ns less h = (omega (arith, less, h.0), tells_later clock later at (unwrap_or (stamp_of e at) s) items n ns less h.1)
  tells_later clock later at s (mark ∷ items) n ns less h = (omega (arith, less, h.0), h.1, λ q up. tells_later clock later at q items (base_of ns) (drop 1 ns) less (h.2 q up))

  -- a place whose stamp isn't from before the latest mark is noted
  pub tells_noted : (clock at s : ℕ) (items : List (Item E)) (n : Base) (ns : List Base) → 0 < mark_count items → at < height n → n.since ≤ s → Tells stamp_of height clock at s items n ns → is_noted stamp_of at items ≡ true
  tells_noted clock at s [] n ns some low high h = absurd (omega (arith, some))
  tells_noted clock at s (entry e ∷ items) n ns some low high h =
      entry_noted (stamp_of e at) (is_noted stamp_of at items) (λ none. tells_noted clock at (unwrap_or (stamp_of e at) s) items n ns some low (omega (arith, high, ap (λ o. unwrap_or o s) none)) h.1)
  tells_noted clock at s (mark ∷ items) n ns some low high h = absurd (omega (arith, high, h.1 low))

  -- so any stamp does as well there, for what it was is noted
  tells_any : (clock at s u : ℕ) (items : List (Item E)) (n : Base) (ns : List Base) → at < height n → n.since ≤ s → Tells stamp_of height clock at s items n ns → Tells stamp_of height clock at u items n ns
  tells_any clock at s u [] n ns low high h = h
  tells_any clock at s u (entry e ∷ items) n ns low high h =
      (h.0, by_stamp (λ x. Tells stamp_of height clock at x items n ns) (stamp_of e at) s u h.1 (λ none. tells_any clock at (unwrap_or (stamp_of e at) s) u items n ns low (omega (arith, high, ap (λ o. unwrap_or o s) none)) h.1))
  tells_any clock at s u (mark ∷ items) n ns low high h = absurd (omega (arith, high, h.1 low))

  -- One that the test drops, though it is of a place below the base of the older mark, has a stamp by which that mark has a
  -- note.
  abbrev pub Drops : ℕ → Base → (E → Bool) → Type 0
  Drops at older test = (e : E) (k : ℕ) → stamp_of e at ≡ Some k → test e ≡ false → at < height older → older.since ≤ k

  spared_entry : (o : Option ℕ) (b : Bool) (at s since : ℕ) (e : E) (rest : List (Item E)) → stamp_of e at ≡ o → ((k : ℕ) → o ≡ Some k → b ≡ false → since ≤ k) → since ≤ s →
      (since ≤ unwrap_or (stamp_of e at) s → is_noted stamp_of at rest ≡ true) → is_noted stamp_of at (cond b (entry e ∷ rest) rest) ≡ true
  spared_entry (Some k) true at s since e rest is drops high goal = ap (λ o. is_some o || is_noted stamp_of at rest) is
  spared_entry (Some k) false at s since e rest is drops high goal = goal (omega (arith, drops k refl refl, ap (λ o. unwrap_or o s) is))
  spared_entry None true at s since e rest is drops high goal = ap (λ o. is_some o || is_noted stamp_of at rest) is ∙ goal (omega (arith, high, ap (λ o. unwrap_or o s) is))
  spared_entry None false at s since e rest is drops high goal = goal (omega (arith, high, ap (λ o. unwrap_or o s) is))

  -- such a place is noted among what is left
  pub tells_spared : (clock at s : ℕ) (items : List (Item E)) (n : Base) (ns : List Base) (test : E → Bool) → 1 < mark_count items → at < height (base_of ns) → (base_of ns).since ≤ s → Drops at (base_of ns) test → Tells stamp_of height clock at s items n ns →
      is_noted stamp_of at (without_mark test items) ≡ true
  tells_spared clock at s [] n ns test some low high drops h = absurd (omega (arith, some))
  tells_spared clock at s (entry e ∷ items) n ns test some low high drops h =
      spared_entry (stamp_of e at) (test e) at s (base_of ns).since e (without_mark test items) refl (λ k is off. drops e k is off low) high (λ up. tells_spared clock at (unwrap_or (stamp_of e at) s) items n ns test some low up drops h.1)
  tells_spared clock at s (mark ∷ items) n ns test some low high drops h =
      tells_noted clock at s items (base_of ns) (drop 1 ns) (omega (arith, some)) low high (h.2 s (λ lower. omega arith))

  -- what is left puts something back at the entry's place, if that is below the base
  abbrev pub IsSpared : Base → E → List (Item E) → Type 0
  IsSpared m e rest = (at k : ℕ) → stamp_of e at ≡ Some k → at < height m → is_noted stamp_of at rest ≡ true

  pub spares : (clock : ℕ) (items : List (Item E)) (n m : Base) (ns : List Base) (test : E → Bool) (stamp : ℕ → ℕ) → 1 < mark_count items → height m ≤ height (base_of ns) → ((at : ℕ) → Drops at (base_of ns) test) → ((at : ℕ) → Tells stamp_of height clock at (stamp at) items n ns) → AreSpared test (IsSpared m) items
  spares clock [] n m ns test stamp some less drops h = tt
  spares clock (entry e ∷ items) n m ns test stamp some less drops h = (
    λ off at k is low.
        let below : at < height (base_of ns) = omega (arith, low, less) in
        tells_spared clock at (unwrap_or (stamp_of e at) (stamp at)) items n ns test some below (omega (arith, drops at e k is off below, ap (λ o. unwrap_or o (stamp at)) is)) (drops at) (h at).1,
    spares clock items n m ns test (λ at. unwrap_or (stamp_of e at) (stamp at)) some less drops (λ at. (h at).1),
  )
  spares clock (mark ∷ items) n m ns test stamp some less drops h = tt

  forgot_entry : (b : Bool) (clock at s u : ℕ) (e : E) (rest : List (Item E)) (m older : Base) (ns : List Base) (test : E → Bool) → test e ≡ b → unwrap_or (stamp_of e at) 0 < clock → Drops at older test → (at < height older → (u ≤ s) ⊎ (older.since ≤ s)) →
      ((v : ℕ) → (at < height older → (v ≤ unwrap_or (stamp_of e at) s) ⊎ (older.since ≤ unwrap_or (stamp_of e at) s)) → Tells stamp_of height clock at v rest m ns) → Tells stamp_of height clock at u (cond b (entry e ∷ rest) rest) m ns
  forgot_entry true clock at s u e rest m older ns test is before drops close goal = (before, goal (unwrap_or (stamp_of e at) u) (λ low. related (stamp_of e at) u s older.since (close low)))
  forgot_entry false clock at s u e rest m older ns test is before drops close goal = goal u (λ low. past_related (stamp_of e at) u s older.since (λ k of. drops e k of is low) (close low))

  forgot_mark : (b : Bool) (clock at s u : ℕ) (items : List (Item E)) (m older : Base) (ns : List Base) → ltb at (height older) ≡ b → height m ≤ height older → m.since ≡ older.since → (at < height older → (u ≤ s) ⊎ (older.since ≤ s)) →
      ((q : ℕ) → (at < height older → q ≤ s) → Tells stamp_of height clock at q items older ns) → Tells stamp_of height clock at u items m ns
  forgot_mark false clock at s u items m older ns is less since close h =
      tells_lower clock at u items older m ns less since (h u (λ low. absurd (omega (arith, low, ltb-false at (height older) is))))
  forgot_mark true clock at s u items m older ns is less since close h =
      let low : at < height older = ltb-true at (height older) is in
      tells_lower clock at u items older m ns less since (elim (close low) [
        | inl under ↦ h u (λ _. under)
        | inr high ↦ tells_any clock at s u items older ns low high (h s (λ _. omega arith))
      ])

  -- What is left tells as much of a stamp that is no later, or where the older mark has a note.
  tells_forgot : (clock at s u : ℕ) (items : List (Item E)) (n m : Base) (ns : List Base) (test : E → Bool) → 1 < mark_count items → height m ≤ height (base_of ns) → m.since ≡ (base_of ns).since → Drops at (base_of ns) test →
      (at < height (base_of ns) → (u ≤ s) ⊎ ((base_of ns).since ≤ s)) → Tells stamp_of height clock at s items n ns → Tells stamp_of height clock at u (without_mark test items) m (drop 1 ns)
  tells_forgot clock at s u [] n m ns test some less since drops close h = absurd (omega (arith, some))
  tells_forgot clock at s u (entry e ∷ items) n m ns test some less since drops close h =
      forgot_entry (test e) clock at s u e (without_mark test items) m (base_of ns) (drop 1 ns) test refl h.0 drops close (λ v near. tells_forgot clock at (unwrap_or (stamp_of e at) s) v items n m ns test some less since drops near h.1)
  tells_forgot clock at s u (mark ∷ items) n m ns test some less since drops close h =
      forgot_mark (ltb at (height (base_of ns))) clock at s u items m (base_of ns) (drop 1 ns) refl less since close h.2

  one_more : (clock at s : ℕ) (e : E) (o : Option ℕ) (items : List (Item E)) (n : Base) (ns : List Base) → stamp_of e at ≡ o → unwrap_or o 0 < clock → Tells stamp_of height clock at (unwrap_or o s) items n ns → Tells stamp_of height clock at s (entry e ∷ items) n ns
  one_more clock at s e o items n ns is before h =
      subst (λ x. (unwrap_or x 0 < clock) × Tells stamp_of height clock at (unwrap_or x s) items n ns) (sym is) (before, h)

  passed_by : (k clock at s : ℕ) (e : E) (items : List (Item E)) (n : Base) (ns : List Base) → stamp_of e at ≡ None → Tells stamp_of height clock at s items n ns → Tells stamp_of height clock at s (noted_by k e items) n ns
  passed_by zero clock at s e items n ns is h = h
  passed_by (suc k) clock at s e items n ns is h = one_more clock at s e None items n ns is (omega (arith, since_before clock at s items n ns h)) h

  -- after a note of another kind
  pub stamps_passed : (clock : ℕ) (n m : Base) (ns : List Base) (e : E) (items : List (Item E)) (stamps : List ℕ) → ((at : ℕ) → stamp_of e at ≡ None) → height m ≡ height n → m.since ≡ n.since → IsStamped stamp_of height clock n ns items stamps → IsStamped stamp_of height clock m ns (noted e items) stamps
  stamps_passed clock n m ns e items stamps none same since h = record {
    before = h.before;
    tells = λ at s low. passed_by (mark_count items) clock at s e items m ns (none at) (tells_lower clock at s items n m ns (omega (arith, same)) since (h.tells at s (λ below. low (omega (arith, below, same)))));
  }

  noted_there : (b : Bool) (clock p at s : ℕ) (n m : Base) (ns : List Base) (e : E) (items : List (Item E)) (stamps now : List ℕ) → eqb p at ≡ b → IsStamped stamp_of height clock n ns items stamps → stamp_of e at ≡ Some (get_or stamps at 0) → ((q : ℕ) → (q ≡ at → ⊥) → stamp_of e q ≡ None) →
      height m ≤ height n → m.since ≡ n.since → ((q : ℕ) → (q ≡ at → ⊥) → q < height n → (q < height m) × (get_or now q 0 ≡ get_or stamps q 0)) → (p < height m → s ≤ get_or now p 0) → Tells stamp_of height clock p s (entry e ∷ items) m ns
  noted_there true clock p at s n m ns e items stamps now is h here others less since rest low =
      subst (λ x. Tells stamp_of height clock x s (entry e ∷ items) m ns) (sym (eqb-true p at is))
      (one_more clock at s e (Some (get_or stamps at 0)) items m ns here (h.before at) (tells_lower clock at (get_or stamps at 0) items n m ns less since (h.tells at (get_or stamps at 0) (λ below. omega arith))))
  noted_there false clock p at s n m ns e items stamps now is h here others less since rest low =
      let apart : p ≡ at → ⊥ = eqb-false p at is in
      one_more clock p s e None items m ns (others p apart) (omega (arith, h.before p))
      (tells_lower clock p s items n m ns less since (h.tells p s (λ below. omega (arith, low (rest p apart below).0, (rest p apart below).1))))

  -- after a place below the base was noted with its stamp
  pub stamps_noted : (clock at : ℕ) (n m : Base) (ns : List Base) (e : E) (items : List (Item E)) (stamps now : List ℕ) → 0 < mark_count items → stamp_of e at ≡ Some (get_or stamps at 0) → ((q : ℕ) → (q ≡ at → ⊥) → stamp_of e q ≡ None) → height m ≤ height n → m.since ≡ n.since →
      ((q : ℕ) → (q ≡ at → ⊥) → q < height n → (q < height m) × (get_or now q 0 ≡ get_or stamps q 0)) → ((q : ℕ) → get_or now q 0 < clock) → IsStamped stamp_of height clock n ns items stamps → IsStamped stamp_of height clock m ns (noted e items) now
  stamps_noted clock at n m ns e items stamps now some here others less since rest before h =
      subst (λ l. IsStamped stamp_of height clock m ns l now) (sym (entry_on (mark_count items) e items some)) (record {
        before = before;
        tells = λ p s low. noted_there (eqb p at) clock p at s n m ns e items stamps now refl h here others less since rest low;
      })

  pub since_clock : (clock : ℕ) (n : Base) (ns : List Base) (items : List (Item E)) (stamps : List ℕ) → IsStamped stamp_of height clock n ns items stamps → n.since < clock
  since_clock clock n ns items stamps h = since_before clock 0 (get_or stamps 0 0) items n ns (h.tells 0 (get_or stamps 0 0) (λ below. omega arith))

  -- with the same stamps in more memory
  pub stamps_same : (clock : ℕ) (n : Base) (ns : List Base) (items : List (Item E)) (stamps now : List ℕ) → ((at : ℕ) → get_or now at 0 ≡ get_or stamps at 0) → IsStamped stamp_of height clock n ns items stamps → IsStamped stamp_of height clock n ns items now
  stamps_same clock n ns items stamps now same h = record {
    before = λ at. omega (arith, same at, h.before at);
    tells = λ at s low. h.tells at s (λ below. omega (arith, same at, low below));
  }

  -- after a copy was kept
  pub stamps_kept : (clock next : ℕ) (n m : Base) (ns bases : List Base) (items now : List (Item E)) (stamps : List ℕ) → next ≡ clock + 1 → height n ≤ height m → m.since ≡ clock → now ≡ mark ∷ items → bases ≡ n ∷ ns → IsStamped stamp_of height clock n ns items stamps → IsStamped stamp_of height next m bases now stamps
  stamps_kept clock next n m ns bases items now stamps later less since is over h =
      subst (λ l. IsStamped stamp_of height next m l now stamps) (sym over) (subst (λ l. IsStamped stamp_of height next m (n ∷ ns) l stamps) (sym is) (record {
        before = λ at. omega (arith, later, h.before at);
        tells = λ at s low. (omega (arith, later, since), λ below. omega (arith, since, low below, h.before at), λ q up. tells_later clock next at q items n ns (omega (arith, later)) (h.tells at q (λ below. omega (arith, up below, low (omega (arith, below, less))))));
      }))

  -- while entries are put back: whatever stamp a place has, tells
  pub record LeadsOn (clock : ℕ) (n : Base) (ns : List Base) (items : List (Item E)) (stamps : List ℕ) : Type 0 where
    pub before : (at : ℕ) → get_or stamps at 0 < clock
    pub tells : (at : ℕ) → Tells stamp_of height clock at (get_or stamps at 0) items n ns

  pub stamps_begun : (clock : ℕ) (n : Base) (ns : List Base) (items : List (Item E)) (stamps : List ℕ) → IsStamped stamp_of height clock n ns items stamps → LeadsOn clock n ns items stamps
  stamps_begun clock n ns items stamps h = record { before = h.before; tells = λ at. h.tells at (get_or stamps at 0) (λ below. omega arith) }

  pub stamps_back : (clock : ℕ) (n : Base) (ns : List Base) (e : E) (items rest : List (Item E)) (stamps now : List ℕ) → items ≡ entry e ∷ rest → ((at : ℕ) → get_or now at 0 ≤ unwrap_or (stamp_of e at) (get_or stamps at 0)) → LeadsOn clock n ns items stamps → LeadsOn clock n ns rest now
  stamps_back clock n ns e items rest stamps now is less h =
      let there : LeadsOn clock n ns (entry e ∷ rest) stamps = subst (λ l. LeadsOn clock n ns l stamps) is h in
      record {
        before = λ at. omega (arith, less at, unwrap_below (stamp_of e at) clock (get_or stamps at 0) (there.tells at).0 (there.before at));
        tells = λ at. tells_less clock at (get_or now at 0) (unwrap_or (stamp_of e at) (get_or stamps at 0)) rest n ns (less at) (there.tells at).1;
      }

  pub stamps_at_mark : (clock : ℕ) (n m : Base) (ms ns : List Base) (items rest : List (Item E)) (stamps : List ℕ) → items ≡ mark ∷ rest → m ≡ base_of ns → ms ≡ drop 1 ns → LeadsOn clock n ns items stamps → IsStamped stamp_of height clock m ms rest stamps
  stamps_at_mark clock n m ms ns items rest stamps is base bases h =
      let there : LeadsOn clock n ns (mark ∷ rest) stamps = subst (λ l. LeadsOn clock n ns l stamps) is h in
      subst (λ b. IsStamped stamp_of height clock b ms rest stamps) (sym base) (subst (λ b. IsStamped stamp_of height clock (base_of ns) b rest stamps) (sym bases) (record {
        before = there.before;
        tells = λ at s low. (there.tells at).2 s low;
      }))

  forgot_from : (b : Bool) (clock at u : ℕ) (items : List (Item E)) (n m : Base) (ns : List Base) (test : E → Bool) (stamps : List ℕ) → ltb at (height n) ≡ b → 1 < mark_count items → height m ≤ height (base_of ns) → m.since ≡ (base_of ns).since → (at < height n → at < height (base_of ns) → at < height m) → Drops at (base_of ns) test →
      (at < height m → u ≤ get_or stamps at 0) → IsStamped stamp_of height clock n ns items stamps → Tells stamp_of height clock at u (without_mark test items) m (drop 1 ns)
  forgot_from true clock at u items n m ns test stamps is some less since both drops low h =
      tells_forgot clock at (get_or stamps at 0) u items n m ns test some less since drops (λ below. inl (low (both (ltb-true at (height n) is) below))) (h.tells at (get_or stamps at 0) (λ below. omega arith))
  forgot_from false clock at u items n m ns test stamps is some less since both drops low h =
      tells_forgot clock at u u items n m ns test some less since drops (λ below. inl (omega arith)) (h.tells at u (λ below. absurd (omega (arith, below, ltb-false at (height n) is))))

  forgot_by : (x clock : ℕ) (items : List (Item E)) (n m : Base) (ns : List Base) (test : E → Bool) (stamps : List ℕ) → mark_count items ≡ x → 0 < x → height m ≤ height (base_of ns) → m.since ≡ (base_of ns).since → ((at : ℕ) → at < height n → at < height (base_of ns) → at < height m) → ((at : ℕ) → Drops at (base_of ns) test) →
      IsStamped stamp_of height clock n ns items stamps → IsStamped stamp_of height clock m (drop 1 ns) (forgotten_by x test items) stamps
  forgot_by zero clock items n m ns test stamps count some less since both drops h = absurd (omega (arith, some))
  forgot_by (suc zero) clock items n m ns test stamps count some less since both drops h = record {
    before = h.before;
    tells = λ at u low. omega (arith, since, older_before clock at (get_or stamps at 0) items n ns (omega (arith, count)) (h.tells at (get_or stamps at 0) (λ below. omega arith)));
  }
  forgot_by (suc (suc x)) clock items n m ns test stamps count some less since both drops h = record {
    before = h.before;
    tells = λ at u low. forgot_from (ltb at (height n)) clock at u items n m ns test stamps refl (omega (arith, count)) less since (both at) (drops at) low h;
  }

  -- after the latest mark was forgotten
  pub stamps_forgot : (clock : ℕ) (items now : List (Item E)) (n m : Base) (ns : List Base) (test : E → Bool) (stamps : List ℕ) → 0 < mark_count items → now ≡ forgotten test items → height m ≤ height (base_of ns) → m.since ≡ (base_of ns).since → ((at : ℕ) → at < height n → at < height (base_of ns) → at < height m) →
      ((at : ℕ) → Drops at (base_of ns) test) → IsStamped stamp_of height clock n ns items stamps → IsStamped stamp_of height clock m (drop 1 ns) now stamps
  stamps_forgot clock items now n m ns test stamps some is less since both drops h =
      subst (λ l. IsStamped stamp_of height clock m (drop 1 ns) l stamps) (sym is) (forgot_by (mark_count items) clock items n m ns test stamps refl some less since both drops h)
