-- Marked code is sound where the code is, and there is one.
use Rattle.std.proofs.Common.{◌≡◌, ◌<◌, ℕ, suc, Bool, true, false, List, [], ◌∷◌, ◌⊎◌, inl, inr, length, Option, Some, None, refl, sym, ap, ◌∙◌, subst}
use Rattle.std.specs.Prelude.{slice_get}
use Rattle.std.specs.List.{Contains}
use Rattle.setl_model_runs.specs.Variable.{Variable}
use Rattle.setl_code.specs.Code.{Instr, Load, Take, CallBody, Step, Body, Code}
use Rattle.setl_code.specs.Piece.{Is}
use Rattle.setl_code.specs.Shapes.{Shape, call_outs, outs, successors, free_successors}
use Rattle.setl_code.specs.Sound.{is_fine, is_read, is_written, ReadLater, reads, later, may_take, StaysBelow, height_at, AllLower, SoundBody}
use Rattle.setl_code_marked.specs.Marked.{LastUse, as_take, Marks, MarksStep, MarksBodies, Marked}
use Rattle.setl_code_marked.specs.Claims.{MarkedIsSound, MarkedIsOne}

-- ---- lists

abbrev is_there : {A : Type 0} → Option A → Bool
is_there None = false
is_there (Some x) = true

same_length : {A : Type 0} (xs ys : List A) → ((k : ℕ) → is_there (slice_get xs k) ≡ is_there (slice_get ys k)) → length xs ≡ length ys
same_length [] [] h = refl
same_length [] (y ∷ ys) h = let no : false ≡ true = h 0 in cc
same_length (x ∷ xs) [] h = let no : true ≡ false = h 0 in cc
same_length (x ∷ xs) (y ∷ ys) h = ap suc (same_length xs ys (λ k. h (suc k)))

same_list : {A : Type 0} (xs ys : List A) → ((k : ℕ) → slice_get xs k ≡ slice_get ys k) → xs ≡ ys
same_list [] [] h = refl
same_list {A} [] (y ∷ ys) h = absurd (no None (h 0) refl)
  where
    no : (z : Option A) → z ≡ Some y → is_there z ≡ false → ⊥
    no z q f = let t : is_there z ≡ true = ap is_there q in cc
same_list {A} (x ∷ xs) [] h = absurd (no None (h 0) refl)
  where
    no : (z : Option A) → Some x ≡ z → is_there z ≡ false → ⊥
    no z q f = let t : true ≡ is_there z = ap is_there q in cc
same_list (x ∷ xs) (y ∷ ys) h =
    let first : Some x ≡ Some y = h 0 in
    let head : x ≡ y = cc in
    let rest : xs ≡ ys = same_list xs ys (λ k. h (suc k)) in
    λ i. head i ∷ rest i

-- ---- an instruction and what it becomes

-- what holds of a load and of its take holds of what an instruction becomes
becomes : (P : Instr → Type 0) → ((i : Instr) → P i → P (as_take i)) → (declared : List Variable) (n : ℕ) (b : Body) (at : ℕ) (i j : Instr) → Marks declared n b at i j → P i → P j
becomes P also declared n b at i j (inl h) p = subst P (sym h.1) (also i p)
becomes P also declared n b at i j (inr h) p = subst P (sym h.1) p

module _ (declared : List Variable) (c m : Code) (marking : Marked declared c m) (n : ℕ) (b : Body) (ss : List Step) (steps : (at : ℕ) → MarksStep declared n b at (slice_get b.steps at) (slice_get ss at)) where
  abbrev d : Body
  d = record b { steps = ss }

  -- the step from which a step comes
  record From (at line : ℕ) (j : Instr) : Type 0 where
    instr : Instr
    is : Is b.steps at line instr
    marks : Marks declared n b at instr j

  from : (at line : ℕ) (j : Instr) → Is ss at line j → From at line j
  from at line j is = go (slice_get b.steps at) (slice_get ss at) refl is (steps at)
    where
      go : (o p : Option Step) → slice_get b.steps at ≡ o → p ≡ Some (line, j) → MarksStep declared n b at o p → From at line j
      go None None e is h = cc
      go None (Some t) e is h = absurd h
      go (Some s) None e is h = absurd h
      go (Some s) (Some t) e is h =
          let lines : t.0 ≡ line = ap (λ (o : Option Step). elim o as (λ o. ℕ) [ None ↦ 0 | Some t ↦ t.0 ]) is in
          let instrs : t.1 ≡ j = ap (λ (o : Option Step). elim o as (λ o. Instr) [ None ↦ j | Some t ↦ t.1 ]) is in
          record {
            instr = s.1;
            is = e ∙ ap (λ (l : ℕ). Some (l, s.1)) (sym h.0 ∙ lines);
            marks = subst (λ (k : Instr). Marks declared n b at s.1 k) instrs h.1;
          }

  -- ---- paths

  also_read : (x : Variable) (i : Instr) → is_read n d i x ≡ true → is_read n d (as_take i) x ≡ true
  also_read x (Load y) h = h
  also_read x i h = h

  read_before : (x : Variable) (at : ℕ) (i j : Instr) → Marks declared n b at i j → is_read n d j x ≡ true → is_read n b i x ≡ true
  read_before x at i j (inl h) read = go i (subst (λ (k : Instr). is_read n d k x ≡ true) h.1 read)
    where
      go : (i : Instr) → is_read n d (as_take i) x ≡ true → is_read n b i x ≡ true
      go (Load y) r = r
      go i r = r
  read_before x at i j (inr h) read = subst (λ (k : Instr). is_read n d k x ≡ true) h.1 read

  written_before : (x : Variable) (at : ℕ) (i j : Instr) → Marks declared n b at i j → is_written j x ≡ false → is_written i x ≡ false
  written_before x at i j (inl h) kept = go i (subst (λ (k : Instr). is_written k x ≡ false) h.1 kept)
    where
      go : (i : Instr) → is_written (as_take i) x ≡ false → is_written i x ≡ false
      go (Load y) r = r
      go i r = r
  written_before x at i j (inr h) kept = subst (λ (k : Instr). is_written k x ≡ false) h.1 kept

  within_before : (to : ℕ) (at : ℕ) (i j : Instr) → Marks declared n b at i j → Contains (successors j (suc at)) to → Contains (successors i (suc at)) to
  within_before to at i j (inl h) within = go i (subst (λ (k : Instr). Contains (successors k (suc at)) to) h.1 within)
    where
      go : (i : Instr) → Contains (successors (as_take i) (suc at)) to → Contains (successors i (suc at)) to
      go (Load y) r = r
      go i r = r
  within_before to at i j (inr h) within = subst (λ (k : Instr). Contains (successors k (suc at)) to) h.1 within

  -- a path of the marked body is one of the body
  path_before : (x : Variable) (at : ℕ) → ReadLater n d x at → ReadLater n b x at
  path_before x at (reads {line = line} {i = j} is read) = let f = from at line j is in reads f.is (read_before x at f.instr j f.marks read)
  path_before x at (later {line = line} {to = to} {i = j} is kept within more) =
      let f = from at line j is in later f.is (written_before x at f.instr j f.marks kept) (within_before to at f.instr j f.marks within) (path_before x to more)

  -- ---- sound bodies

  same_outs : (i : Instr) (at : ℕ) (s : Shape) → outs m.bodies i at s ≡ outs c.bodies i at s
  same_outs (CallBody f) at s = go (slice_get c.bodies f) (slice_get m.bodies f) (marking.bodies f)
    where
      go : (o p : Option Body) → MarksBodies declared f o p → call_outs p at s ≡ call_outs o at s
      go None None h = refl
      go None (Some e) h = absurd h
      go (Some e) None h = absurd h
      go (Some e) (Some g) h = ap (λ (z : Body). call_outs (Some z) at s) h.rest
  same_outs i at s = refl

  also_below : (i : Instr) → StaysBelow n i → StaysBelow n (as_take i)
  also_below (Load x) h = tt
  also_below i h = h

  also_fine : (table : List (Option Shape)) (at : ℕ) (s : Shape) (i : Instr) → is_fine table (outs m.bodies i at s) ≡ true → is_fine table (outs m.bodies (as_take i) at s) ≡ true
  also_fine table at s (Load x) h = h
  also_fine table at s i h = h

  also_falls : (hs : List ℕ) (h at : ℕ) (i : Instr) → AllLower hs h (free_successors i at) → AllLower hs h (free_successors (as_take i) at)
  also_falls hs h at (Load x) less = less
  also_falls hs h at i less = less

  -- a take that stands in marked code
  take_before : (at : ℕ) (x : Variable) (i j : Instr) → j ≡ Take x → Marks declared n b at i j → (i ≡ Take x) ⊎ ((may_take declared x ≡ true) × (ReadLater n b x (suc at) → ⊥))
  take_before at x i j is (inl h) = inr (go i h.0 (sym h.1 ∙ is))
    where
      go : (i : Instr) → LastUse declared n b at i → as_take i ≡ Take x → (may_take declared x ≡ true) × (ReadLater n b x (suc at) → ⊥)
      go (Load y) last e =
          let same : y ≡ x = cc in
          (subst (λ (z : Variable). may_take declared z ≡ true) same last.0, subst (λ (z : Variable). ReadLater n b z (suc at) → ⊥) same last.1)
      go i last e = absurd last
  take_before at x i j is (inr h) = inl (sym h.1 ∙ is)

  there_alike : (at : ℕ) (o p : Option Step) → MarksStep declared n b at o p → is_there o ≡ is_there p
  there_alike at None None h = refl
  there_alike at None (Some t) h = absurd h
  there_alike at (Some s) None h = absurd h
  there_alike at (Some s) (Some t) h = refl

  pub sound_body : SoundBody c declared n b → SoundBody m declared n d
  sound_body sound = record {
    below = λ at line j is. (let f = from at line j is in becomes (StaysBelow n) also_below declared n b at f.instr j f.marks (sound.below at line f.instr f.is));
    table = sound.table;
    whole = sound.whole ∙ same_length b.steps ss (λ k. there_alike k (slice_get b.steps k) (slice_get ss k) (steps k));
    starts = sound.starts;
    fine = λ at line j s is shape. (let f = from at line j is in becomes (λ k. is_fine sound.table (outs m.bodies k (suc at) s) ≡ true) (also_fine sound.table (suc at) s) declared n b at f.instr j f.marks (ap (is_fine sound.table) (same_outs f.instr (suc at) s) ∙ sound.fine at line f.instr s f.is shape));
    heights = sound.heights;
    falls = λ at line j is. (let f = from at line j is in becomes (λ k. AllLower sound.heights (height_at sound.heights at) (free_successors k (suc at))) (also_falls sound.heights (height_at sound.heights at) (suc at)) declared n b at f.instr j f.marks (sound.falls at line f.instr f.is));
    takes = λ at line x is. (let f = from at line (Take x) is in take at line x f (take_before at x f.instr (Take x) refl f.marks));
  }
    where
      take : (at line : ℕ) (x : Variable) (f : From at line (Take x)) → (f.instr ≡ Take x) ⊎ ((may_take declared x ≡ true) × (ReadLater n b x (suc at) → ⊥)) → (may_take declared x ≡ true) × (ReadLater n d x (suc at) → ⊥)
      take at line x f (inl same) = let t = sound.takes at line x (subst (λ (k : Instr). Is b.steps at line k) same f.is) in (t.0, λ read. t.1 (path_before x (suc at) read))
      take at line x f (inr last) = (last.0, λ read. last.1 (path_before x (suc at) read))

pub marked_is_sound : MarkedIsSound
marked_is_sound declared c m marking sound = record { bodies = bodies; main = main }
  where
    bodies : (n : ℕ) (d : Body) → slice_get m.bodies n ≡ Some d → SoundBody m declared n d
    bodies n d is = go (slice_get c.bodies n) (slice_get m.bodies n) refl is (marking.bodies n)
      where
        go : (o p : Option Body) → slice_get c.bodies n ≡ o → p ≡ Some d → MarksBodies declared n o p → SoundBody m declared n d
        go None None has is h = cc
        go None (Some e) has is h = absurd h
        go (Some b) None has is h = absurd h
        go (Some b) (Some e) has is h =
            let same : e ≡ d = cc in
            subst (SoundBody m declared n) same (subst (SoundBody m declared n) (sym h.rest) (sound_body declared c m marking n b e.steps h.steps (sound.bodies n b has)))

    main : 0 < length m.bodies
    main = subst (λ (k : ℕ). 0 < k) (same_length c.bodies m.bodies (λ n. there (slice_get c.bodies n) (slice_get m.bodies n) n (marking.bodies n))) sound.main
      where
        there : (o p : Option Body) (n : ℕ) → MarksBodies declared n o p → is_there o ≡ is_there p
        there None None n h = refl
        there None (Some e) n h = absurd h
        there (Some b) None n h = absurd h
        there (Some b) (Some e) n h = refl

-- ---- one marked code

one_instr : (declared : List Variable) (n : ℕ) (b : Body) (at : ℕ) (i j k : Instr) → Marks declared n b at i j → Marks declared n b at i k → j ≡ k
one_instr declared n b at i j k (inl h) (inl g) = h.1 ∙ sym g.1
one_instr declared n b at i j k (inl h) (inr g) = absurd (g.0 h.0)
one_instr declared n b at i j k (inr h) (inl g) = absurd (h.0 g.0)
one_instr declared n b at i j k (inr h) (inr g) = h.1 ∙ sym g.1

one_step : (declared : List Variable) (n : ℕ) (b : Body) (at : ℕ) (o p q : Option Step) → MarksStep declared n b at o p → MarksStep declared n b at o q → p ≡ q
one_step declared n b at None None None h g = refl
one_step declared n b at None None (Some u) h g = absurd g
one_step declared n b at None (Some t) q h g = absurd h
one_step declared n b at (Some s) None q h g = absurd h
one_step declared n b at (Some s) (Some t) None h g = absurd g
one_step declared n b at (Some s) (Some t) (Some u) h g =
    let lines : t.0 ≡ u.0 = h.0 ∙ sym g.0 in
    let instrs : t.1 ≡ u.1 = one_instr declared n b at s.1 t.1 u.1 h.1 g.1 in
    λ i. Some (lines i, instrs i)

one_body : (declared : List Variable) (n : ℕ) (o p q : Option Body) → MarksBodies declared n o p → MarksBodies declared n o q → p ≡ q
one_body declared n None None None h g = refl
one_body declared n None None (Some u) h g = absurd g
one_body declared n None (Some t) q h g = absurd h
one_body declared n (Some s) None q h g = absurd h
one_body declared n (Some s) (Some t) None h g = absurd g
one_body declared n (Some b) (Some d) (Some e) h g =
    let steps : d.steps ≡ e.steps = same_list d.steps e.steps (λ at. one_step declared n b at (slice_get b.steps at) (slice_get d.steps at) (slice_get e.steps at) (h.steps at) (g.steps at)) in
    ap Some (h.rest ∙ ap (λ (ss : List Step). record b { steps = ss }) steps ∙ sym g.rest)

pub marked_is_one : MarkedIsOne
marked_is_one declared c m o h g =
    let vars : m.vars ≡ o.vars = h.vars ∙ sym g.vars in
    let bodies : m.bodies ≡ o.bodies = same_list m.bodies o.bodies (λ n. one_body declared n (slice_get c.bodies n) (slice_get m.bodies n) (slice_get o.bodies n) (h.bodies n) (g.bodies n)) in
    λ i. record { vars = vars i; bodies = bodies i }
