-- Moves of a code and of its marked code that are alike.
use Rattle.std.proofs.Common.{◌≡◌, ◌<◌, ℕ, suc, ◌+◌, ◌-◌, Bool, true, false, List, [], ◌∷◌, inl, inr, length, Option, Some, None, refl, sym, ap, ◌∙◌, subst, arith}
use Rattle.std.specs.Prelude.{slice_get}
use Rattle.std.specs.List.{Contains}
use Rattle.setl_value.specs.Datum.{Datum, bool, int, text, atom, tuple, set, part_list}
use Rattle.setl_operators_table.specs.Outcome.{Outcome, Gives, Fails, Overspends}
use Rattle.setl_operators_table.specs.Operators.{op_of}
use Rattle.setl_text.specs.Texts.{print_line}
use Rattle.setl_text.specs.Reading.{Reading, Denotes, AtEnd, NotForm, TooWide, TooDeep, read_denotation}
use Rattle.setl_program.specs.declared.kinds.Connective.{Connective}
use Rattle.setl_program.specs.declared.kinds.Connective.TheVariants.{And, Or, Implies}
use Rattle.setl_program.specs.declared.kinds.Taking.{Taking}
use Rattle.setl_program.specs.Program.{Begin}
use Rattle.setl_model_runs.specs.Variable.{Variable, Global, Own, Bound, is_variable}
use Rattle.setl_model_runs.specs.VariableLaws.{same_variable, variable_itself}
use Rattle.setl_model_runs.specs.Turns.{left_after}
use Rattle.setl_model_runs.specs.Events.{Event, End, Returned, Printed, Kept, Back, Forgot}
use Rattle.setl_model_runs.specs.Run.{Store, Move, Moves, Halts}
use Rattle.setl_model.specs.World.{World, branch, go_with}
use Rattle.setl_model.specs.Core.{One, Two, Selected}
use Rattle.setl_model.specs.Iterations.{Started, Starts, Refuses, items_of}
use Rattle.setl_model.specs.Calls.{bindings}
use Rattle.setl_model.specs.Places.{with_part_at_all, part_at_all, combined, Taken, TakesOut, IsEmpty, CannotTake, take_out}
use Rattle.setl_code.specs.Code.{Bracket, Alteration, Putting, Combining, TakingOut, Instr, Push, PushAtom, PushEof, Load, Take, StoreIn, Operate, Alter, Decides, TestBool, Unless, Jump, DropTop, DupTop, PartsOf, BeginOver, NextOr, BeginOf, AddBelow, LeaveAll, PayRound, CallBody, ReturnTop, KeepAll, GoBack, ForgetKept, PrintTop, ReadOne, StopRun, Step, Body, Code}
use Rattle.setl_code.specs.Piece.{Is}
use Rattle.setl_code.specs.CodeCore.{Held, There, Gone, Cells, held_in, Operand, Result, Iterator, PairIterator, Collecting, value_of, Popped, Pops, Lacks, popped, without_iterators, Activation, Copy, CodeCore, holding, held, write}
use Rattle.setl_code.specs.Machine.{at_step, go_to, next, on_value, on_top, on_popped, on_held, on_rest, turn, with_outcome, store_in, store_whole, take_from, selected_by, alter, iterator, begin_over, next_or, Added, Adds, Refused, Nowhere, added, go_added, first_parts, take_apart, call_body, handed_back, return_to, go_back, forget_kept, push_read, decides, do_instr}
use Rattle.setl_code.specs.Shapes.{successors}
use Rattle.setl_code.specs.Sound.{ReadLater, reads, later, is_read, is_written, may_take}
use Rattle.setl_code_marked.specs.Marked.{MarksBodies, Marked}
use Rattle.setl_code_marked.specs.Alike.{Takeable, Dead, SameOrGone, AlikeCells, AlikeActivation, AlikeActivations, AlikeCopies, AlikeCore}
use Rattle.setl_code_marked.proofs.Cells.{written, taken, with_stores, write_kept, stores_kept, handed_same, weak_core, weak_cells, weak_activations, weak_copies}

first : {x : ℕ} (xs : List ℕ) → Contains (x ∷ xs) x
first xs = (0, let less : 0 < suc (length xs) = omega arith in less, refl)

second : {x y : ℕ} (xs : List ℕ) → Contains (x ∷ y ∷ xs) y
second xs = (1, let less : 1 < suc (suc (length xs)) = omega arith in less, refl)

module _ (declared : List Variable) (c m : Code) (marking : Marked declared c m) where
  -- Two moves that write, tell, store and end alike. Before its stores the second core lacks no more than may be taken;
  -- behind them, nothing that is read before it is written.
  pub data Both : Move CodeCore → Move CodeCore → Type 0 where
    both : {said : List ℕ} {told : List Event} {line : ℕ} {xs : List Store} {k e : CodeCore} → AlikeCore (Takeable declared) k e → AlikeCore (Dead declared c) (with_stores xs k) (with_stores xs e) → Both (Moves said told k line xs) (Moves said told e line xs)
    halt : {e : End} → Both (Halts e) (Halts e)

  pub weak : (k m : CodeCore) → AlikeCore (Dead declared c) k m → AlikeCore (Takeable declared) k m
  weak k m h = weak_core (Dead declared c) (Takeable declared) (λ n at x dead. dead.0) k m h

  pub silent : (said : List ℕ) (told : List Event) (k m : CodeCore) → AlikeCore (Dead declared c) k m → Both (Moves said told k 0 []) (Moves said told m 0 [])
  silent said told k m h = both (weak k m h) h

  -- ---- by cases

  pub tops : (xs : List Operand) (f g : Option Datum → List Operand → Move CodeCore) → ((v : Option Datum) (ys : List Operand) → Both (f v ys) (g v ys)) → Both (on_top xs f) (on_top xs g)
  tops [] f g h = halt
  tops (o ∷ xs) f g h = go (value_of o)
    where
      go : (v : Option (Option Datum)) → Both (on_value v (λ v. f v xs)) (on_value v (λ v. g v xs))
      go None = halt
      go (Some v) = h v xs

  pub pops : (p : Popped) (f g : List (Option Datum) → List Operand → Move CodeCore) → ((vs : List (Option Datum)) (ys : List Operand) → Both (f vs ys) (g vs ys)) → Both (on_popped p f) (on_popped p g)
  pops Lacks f g h = halt
  pops (Pops vs ys) f g h = h vs ys

  pub holds : (x y : Held) (f g : Option Datum → Move CodeCore) → y ≡ x → ((v : Option Datum) → Both (f v) (g v)) → Both (on_held x f) (on_held y g)
  holds x y f g same h = subst (λ z. Both (on_held x f) (on_held z g)) (sym same) (go x)
    where
      go : (z : Held) → Both (on_held z f) (on_held z g)
      go Gone = halt
      go (There v) = h v

  pub rests : (o : Option (List Operand)) (f g : List Operand → Move CodeCore) → ((xs : List Operand) → Both (f xs) (g xs)) → Both (on_rest o f) (on_rest o g)
  rests None f g h = halt
  rests (Some xs) f g h = h xs

  pub branches : (v : Option Datum) (line : ℕ) (a b d e : Move CodeCore) → Both a d → Both b e → Both (branch v line a b) (branch v line d e)
  branches (Some (bool true)) line a b d e h g = h
  branches (Some (bool false)) line a b d e h g = g
  branches (Some (int z)) line a b d e h g = halt
  branches (Some (text t)) line a b d e h g = halt
  branches (Some (atom n)) line a b d e h g = halt
  branches (Some (tuple ps)) line a b d e h g = halt
  branches (Some (set ms)) line a b d e h g = halt
  branches None line a b d e h g = halt

  -- ---- two cores that are alike

  module _ (vars : Cells) (n at : ℕ) (own marked : Cells) (acts ms : List Activation) (cs ds : List Copy) (now : AlikeCells (Dead declared c n at) own marked) (callers : AlikeActivations (Dead declared c) acts ms) (kept : AlikeCopies (Dead declared c) cs ds) where
    -- the code's, and the marked code's, with these operands in this world
    abbrev pub one : List Operand → World → CodeCore
    one xs w = record { globals = vars; now = record { body = n; at = at; own = own; operands = xs }; callers = acts; kept = cs; world = w }

    abbrev pub two : List Operand → World → CodeCore
    two xs w = record { globals = vars; now = record { body = n; at = at; own = marked; operands = xs }; callers = ms; kept = ds; world = w }

    -- turns and outcomes
    pub turns : (xs : List Operand) (w : World) (f g : CodeCore → Move CodeCore) → ((m : ℕ) → Both (f (one xs (record w { left = m }))) (g (two xs (record w { left = m })))) → Both (turn (one xs w) f) (turn (two xs w) g)
    turns xs w f g h = go (left_after 1 w.left)
      where
        go : (o : Option ℕ) → Both (go_with holding o (one xs w) f) (go_with holding o (two xs w) g)
        go None = halt
        go (Some m) = h m

    pub outcomes : (o : Outcome) (line : ℕ) (xs : List Operand) (w : World) (f g : Option Datum → CodeCore → Move CodeCore) → ((v : Option Datum) (m : ℕ) → Both (f v (one xs (record w { left = m }))) (g v (two xs (record w { left = m })))) → Both (with_outcome o line (one xs w) f) (with_outcome o line (two xs w) g)
    outcomes (Gives v m) line xs w f g h = h v (w.left - m)
    outcomes (Fails fault) line xs w f g h = halt
    outcomes Overspends line xs w f g h = halt

    module _ (b : Body) (has : slice_get c.bodies n ≡ Some b) (line : ℕ) where
      -- ---- what is read is the same

      one_body : (d e : Body) (o : Option Body) → o ≡ Some d → o ≡ Some e → d ≡ e
      one_body d e o h g = cc

      pub read_same : (i : Instr) → Is b.steps at line i → (x : Variable) → is_read n b i x ≡ true → held_in marked x ≡ held_in own x
      read_same i is x read = go (now x)
        where
          go : SameOrGone (Dead declared c n at x) (held_in own x) (held_in marked x) → held_in marked x ≡ held_in own x
          go (inl same) = same
          go (inr lost) = absurd (lost.1.1 b has (reads is read))

      pub held_same : (i : Instr) → Is b.steps at line i → (xs : List Operand) (w : World) (x : Variable) → is_read n b i x ≡ true → held x (two xs w) ≡ held x (one xs w)
      held_same i is xs w (Global name) read = refl
      held_same i is xs w (Own body name) read = read_same i is (Own body name) read
      held_same i is xs w (Bound former name) read = read_same i is (Bound former name) read

      -- ---- what is dead stays dead unless it is written

      pub still : (i : Instr) → Is b.steps at line i → (to : ℕ) → Contains (successors i (suc at)) to → (y : Variable) → is_written i y ≡ false → Dead declared c n at y → Dead declared c n to y
      still i is to within y kept_ dead = (dead.0, λ d there read. (let same : d ≡ b = one_body d b (slice_get c.bodies n) there has in dead.1 b has (later is kept_ within (subst (λ e. ReadLater n e y to) same read))))

      still_cell : (i : Instr) → Is b.steps at line i → (to : ℕ) → Contains (successors i (suc at)) to → (y : Variable) → is_written i y ≡ false → SameOrGone (Dead declared c n to y) (held_in own y) (held_in marked y)
      still_cell i is to within y kept_ = go (now y)
        where
          go : SameOrGone (Dead declared c n at y) (held_in own y) (held_in marked y) → SameOrGone (Dead declared c n to y) (held_in own y) (held_in marked y)
          go (inl same) = inl same
          go (inr lost) = inr (lost.0, still i is to within y kept_ lost.1)

      pub still_all : (i : Instr) → Is b.steps at line i → (to : ℕ) → Contains (successors i (suc at)) to → ((y : Variable) → is_written i y ≡ false) → AlikeCells (Dead declared c n to) own marked
      still_all i is to within kept_ y = still_cell i is to within y (kept_ y)

      -- a move in the activation that stores nothing
      pub lands : (i : Instr) → Is b.steps at line i → (said : List ℕ) (told : List Event) (to : ℕ) (zs xs : List Operand) (w : World) → Contains (successors i (suc at)) to → ((y : Variable) → is_written i y ≡ false) → Both (Moves said told (at_step to xs (one zs w)) 0 []) (Moves said told (at_step to xs (two zs w)) 0 [])
      lands i is said told to zs xs w within kept_ =
          silent said told (at_step to xs (one zs w)) (at_step to xs (two zs w)) (record { globals = refl; world = refl; now = record { same = refl; own = still_all i is to within kept_ }; callers = callers; kept = kept })

      -- before a store at the next step
      before : (to : ℕ) (zs xs : List Operand) (w : World) → AlikeCore (Takeable declared) (at_step to xs (one zs w)) (at_step to xs (two zs w))
      before to zs xs w = record {
        globals = refl;
        world = refl;
        now = record { same = refl; own = weak_cells (Dead declared c) (λ a b x. may_take declared x ≡ true) (λ a b x dead. dead.0) n at own marked now };
        callers = weak_activations (Dead declared c) (Takeable declared) (λ a b x dead. dead.0) acts ms callers;
        kept = weak_copies (Dead declared c) (Takeable declared) (λ a b x dead. dead.0) cs ds kept;
      }

      -- a store, behind which the code goes on at the next step
      pub stores : (i : Instr) → Is b.steps at line i → (x : Variable) (v : Option Datum) (zs xs : List Operand) (w : World) → Contains (successors i (suc at)) (suc at) → ((y : Variable) → is_variable x y ≡ false → is_written i y ≡ false) → Both (store_in x line v xs (one zs w)) (store_in x line v xs (two zs w))
      stores i is (Global name) v zs xs w within kept_ =
          both (before (suc at) zs xs w) (record { globals = refl; world = refl; now = record { same = refl; own = λ y. global_apart y }; callers = callers; kept = kept })
        where
          global_apart : (y : Variable) → SameOrGone (Dead declared c n (suc at) y) (held_in own y) (held_in marked y)
          global_apart (Global other) = go (now (Global other))
            where
              go : SameOrGone (Dead declared c n at (Global other)) (held_in own (Global other)) (held_in marked (Global other)) → SameOrGone (Dead declared c n (suc at) (Global other)) (held_in own (Global other)) (held_in marked (Global other))
              go (inl same) = inl same
              go (inr lost) = let no : false ≡ true = lost.1.0 in cc
          global_apart (Own body other) = still_cell i is (suc at) within (Own body other) (kept_ (Own body other) refl)
          global_apart (Bound former other) = still_cell i is (suc at) within (Bound former other) (kept_ (Bound former other) refl)
      stores i is (Own body name) v zs xs w within kept_ =
          both (before (suc at) zs xs w) (record { globals = refl; world = refl; now = record { same = refl; own = written (Dead declared c n (suc at)) (Own body name) (There v) own marked (λ y other. still_cell i is (suc at) within y (kept_ y other)) }; callers = callers; kept = kept })
      stores i is (Bound former name) v zs xs w within kept_ =
          let h : AlikeCore (Dead declared c) (at_step (suc at) xs (write (Bound former name) (There v) (one zs w))) (at_step (suc at) xs (write (Bound former name) (There v) (two zs w))) = record { globals = refl; world = refl; now = record { same = refl; own = written (Dead declared c n (suc at)) (Bound former name) (There v) own marked (λ y other. still_cell i is (suc at) within y (kept_ y other)) }; callers = callers; kept = kept } in
          silent [] [] _ _ h

      -- a take in place of a load
      pub takes : (i : Instr) → Is b.steps at line i → (x : Variable) (zs xs : List Operand) (w : World) → Contains (successors i (suc at)) (suc at) → ((y : Variable) → is_written i y ≡ false) → may_take declared x ≡ true → (ReadLater n b x (suc at) → ⊥) → AlikeCore (Dead declared c) (at_step (suc at) xs (one zs w)) (at_step (suc at) xs (write x Gone (two zs w)))
      takes i is (Global name) zs xs w within kept_ may last = let no : false ≡ true = may in cc
      takes i is (Own body name) zs xs w within kept_ may last =
          record { globals = refl; world = refl; now = record { same = refl; own = taken (Dead declared c n (suc at)) (Own body name) own marked (may, λ d there read. last (subst (λ e. ReadLater n e (Own body name) (suc at)) (one_body d b (slice_get c.bodies n) there has) read)) (same_variable (Own body name)) (still_all i is (suc at) within kept_) }; callers = callers; kept = kept }
      takes i is (Bound former name) zs xs w within kept_ may last =
          record { globals = refl; world = refl; now = record { same = refl; own = taken (Dead declared c n (suc at)) (Bound former name) own marked (may, λ d there read. last (subst (λ e. ReadLater n e (Bound former name) (suc at)) (one_body d b (slice_get c.bodies n) there has) read)) (same_variable (Bound former name)) (still_all i is (suc at) within kept_) }; callers = callers; kept = kept }

      -- ---- instructions

      abbrev Alike : Instr → Type 0
      Alike i = (xs : List Operand) (w : World) → Both (do_instr c line i (one xs w)) (do_instr m line i (two xs w))

      -- on the next step, with nothing stored
      on : (i : Instr) → Is b.steps at line i → (zs xs : List Operand) (w : World) → Contains (successors i (suc at)) (suc at) → ((y : Variable) → is_written i y ≡ false) → Both (next xs (one zs w)) (next xs (two zs w))
      on i is zs xs w within kept_ = lands i is [] [] (suc at) zs xs w within kept_

      atom_alike : Is b.steps at line PushAtom → Alike PushAtom
      atom_alike is xs w = turns xs w _ _ (λ l. lands PushAtom is [] [] (suc at) xs (Result (Some (atom w.atom)) ∷ xs) (record w { left = l; atom = w.atom + 1 }) (first []) (λ y. refl))

      load_alike : (x : Variable) → Is b.steps at line (Load x) → Alike (Load x)
      load_alike x is xs w = holds (held x (one xs w)) (held x (two xs w)) _ _ (held_same (Load x) is xs w x (variable_itself x)) (λ v. on (Load x) is xs (Result v ∷ xs) w (first []) (λ y. refl))

      -- a take on both sides
      gone_alike : (x : Variable) (v : Option Datum) (xs : List Operand) (w : World) → Is b.steps at line (Take x) → Both (next (Result v ∷ xs) (write x Gone (one xs w))) (next (Result v ∷ xs) (write x Gone (two xs w)))
      gone_alike x v xs w is =
          let here : AlikeCore (Dead declared c) (at_step (suc at) (Result v ∷ xs) (one xs w)) (at_step (suc at) (Result v ∷ xs) (two xs w)) = record { globals = refl; world = refl; now = record { same = refl; own = still_all (Take x) is (suc at) (first []) (λ y. refl) }; callers = callers; kept = kept } in
          go x (write_kept (Dead declared c) x Gone _ _ here)
        where
          go : (x : Variable) → AlikeCore (Dead declared c) (write x Gone (at_step (suc at) (Result v ∷ xs) (one xs w))) (write x Gone (at_step (suc at) (Result v ∷ xs) (two xs w))) → Both (next (Result v ∷ xs) (write x Gone (one xs w))) (next (Result v ∷ xs) (write x Gone (two xs w)))
          go (Global name) h = silent [] [] _ _ h
          go (Own body name) h = silent [] [] _ _ h
          go (Bound former name) h = silent [] [] _ _ h

      take_alike : (x : Variable) → Is b.steps at line (Take x) → Alike (Take x)
      take_alike x is xs w = holds (held x (one xs w)) (held x (two xs w)) _ _ (held_same (Take x) is xs w x (variable_itself x)) (λ v. gone_alike x v xs w is)

      -- a take in place of a load
      pub last_alike : (x : Variable) → Is b.steps at line (Load x) → may_take declared x ≡ true → (ReadLater n b x (suc at) → ⊥) → (xs : List Operand) (w : World) → Both (do_instr c line (Load x) (one xs w)) (do_instr m line (Take x) (two xs w))
      last_alike x is may last xs w = holds (held x (one xs w)) (held x (two xs w)) _ _ (held_same (Load x) is xs w x (variable_itself x)) (λ v. goes x v (takes (Load x) is x xs (Result v ∷ xs) w (first []) (λ y. refl) may last))
        where
          goes : (x : Variable) (v : Option Datum) → AlikeCore (Dead declared c) (at_step (suc at) (Result v ∷ xs) (one xs w)) (at_step (suc at) (Result v ∷ xs) (write x Gone (two xs w))) → Both (next (Result v ∷ xs) (one xs w)) (next (Result v ∷ xs) (write x Gone (two xs w)))
          goes (Global name) v h = silent [] [] _ _ h
          goes (Own body name) v h = silent [] [] _ _ h
          goes (Bound former name) v h = silent [] [] _ _ h

      decides_alike : (o : Connective) (to : ℕ) (v : Option Datum) (zs xs : List Operand) (w : World) → Is b.steps at line (Decides o to) → Both (decides o to v line xs (one zs w)) (decides o to v line xs (two zs w))
      decides_alike o to v zs xs w is = go o
        where
          goes : Both (next xs (one zs w)) (next xs (two zs w))
          goes = on (Decides o to) is zs xs w (first (to ∷ [])) (λ y. refl)

          answers : (d : Bool) → Both (go_to to (Result (Some (bool d)) ∷ xs) (one zs w)) (go_to to (Result (Some (bool d)) ∷ xs) (two zs w))
          answers d = lands (Decides o to) is [] [] to zs (Result (Some (bool d)) ∷ xs) w (second []) (λ y. refl)

          go : (p : Connective) → Both (decides p to v line xs (one zs w)) (decides p to v line xs (two zs w))
          go And = branches v line _ _ _ _ goes (answers false)
          go Or = branches v line _ _ _ _ (answers true) goes
          go Implies = branches v line _ _ _ _ goes (answers true)

      apart_alike : (k : ℕ) (v : Option Datum) (zs xs : List Operand) (w : World) → Is b.steps at line (PartsOf k) → Both (take_apart k v line xs (one zs w)) (take_apart k v line xs (two zs w))
      apart_alike k (Some (tuple ps)) zs xs w is = on (PartsOf k) is zs (first_parts k (part_list ps) xs) w (first []) (λ y. refl)
      apart_alike k (Some (bool t)) zs xs w is = halt
      apart_alike k (Some (int z)) zs xs w is = halt
      apart_alike k (Some (text t)) zs xs w is = halt
      apart_alike k (Some (atom a)) zs xs w is = halt
      apart_alike k (Some (set es)) zs xs w is = halt
      apart_alike k None zs xs w is = halt

      begun_alike : (q : Started) (o : Begin) (k : ℕ) (zs xs : List Operand) (w : World) → Is b.steps at line (BeginOver o k) → Both (begin_over q o line xs (one zs w)) (begin_over q o line xs (two zs w))
      begun_alike (Starts items) o k zs xs w is = on (BeginOver o k) is zs (iterator o items ∷ xs) w (first []) (λ y. refl)
      begun_alike (Refuses fault) o k zs xs w is = halt

      next_alike : (to : ℕ) (xs zs : List Operand) (w : World) → Is b.steps at line (NextOr to) → Both (next_or to xs (one zs w)) (next_or to xs (two zs w))
      next_alike to [] zs w is = halt
      next_alike to (Result v ∷ xs) zs w is = halt
      next_alike to (Collecting o got ∷ xs) zs w is = halt
      next_alike to (Iterator [] ∷ xs) zs w is = lands (NextOr to) is [] [] to zs xs w (second []) (λ y. refl)
      next_alike to (Iterator (One v ∷ items) ∷ xs) zs w is = turns zs w _ _ (λ l. on (NextOr to) is zs (Result v ∷ Iterator items ∷ xs) (record w { left = l }) (first (to ∷ [])) (λ y. refl))
      next_alike to (Iterator (Two v u ∷ items) ∷ xs) zs w is = halt
      next_alike to (PairIterator [] ∷ xs) zs w is = lands (NextOr to) is [] [] to zs xs w (second []) (λ y. refl)
      next_alike to (PairIterator (One v ∷ items) ∷ xs) zs w is = halt
      next_alike to (PairIterator (Two v u ∷ items) ∷ xs) zs w is = turns zs w _ _ (λ l. on (NextOr to) is zs (Result v ∷ Result u ∷ PairIterator items ∷ xs) (record w { left = l }) (first (to ∷ [])) (λ y. refl))

      added_alike : (a : Added) (k : ℕ) (zs : List Operand) (w : World) → Is b.steps at line (AddBelow k) → Both (go_added a line (one zs w)) (go_added a line (two zs w))
      added_alike (Adds xs) k zs w is = on (AddBelow k) is zs xs w (first []) (λ y. refl)
      added_alike (Refused fault) k zs w is = halt
      added_alike Nowhere k zs w is = halt

      read_alike : (r : Reading) (xs : List Operand) (w : World) → Is b.steps at line ReadOne → Both (push_read r line (one xs w)) (push_read r line (two xs w))
      read_alike (Denotes v rest) xs w is = on ReadOne is xs (Result v ∷ xs) (record w { input = rest }) (first []) (λ y. refl)
      read_alike AtEnd xs w is = on ReadOne is xs (Result None ∷ xs) (record w { input = []; eof = true }) (first []) (λ y. refl)
      read_alike NotForm xs w is = halt
      read_alike TooWide xs w is = halt
      read_alike TooDeep xs w is = halt

      -- ---- updates

      whole_alike : (i : Instr) (is : Is b.steps at line i) (o : Outcome) (x : Variable) (zs xs : List Operand) (w : World) → Contains (successors i (suc at)) (suc at) → ((y : Variable) → is_written i y ≡ false) → Both (store_whole o line x xs (one zs w)) (store_whole o line x xs (two zs w))
      whole_alike i is o x zs xs w within kept_ = outcomes o line zs w _ _ (λ v l. stores i is x v zs xs (record w { left = l }) within (λ y other. kept_ y))

      taken_alike : (q : Taken) (t : Taking) (x : Variable) (bs : List Bracket) (whole : Option Datum) (chosen : List Selected) (zs xs : List Operand) (w : World) → Is b.steps at line (Alter (TakingOut t) x bs) → Both (take_from q line x whole chosen xs (one zs w)) (take_from q line x whole chosen xs (two zs w))
      taken_alike (TakesOut small v) t x bs whole chosen zs xs w is = whole_alike (Alter (TakingOut t) x bs) is (with_part_at_all chosen whole (Some small) w.left) x zs (Result v ∷ xs) w (first []) (λ y. refl)
      taken_alike IsEmpty t x bs whole chosen zs xs w is = on (Alter (TakingOut t) x bs) is zs (Result None ∷ xs) w (first []) (λ y. refl)
      taken_alike (CannotTake fault) t x bs whole chosen zs xs w is = halt

      altering_alike : (a : Alteration) (x : Variable) (bs : List Bracket) (whole : Option Datum) (chosen : List Selected) (zs xs : List Operand) (w : World) → Is b.steps at line (Alter a x bs) → Both (alter a line x whole chosen xs (one zs w)) (alter a line x whole chosen xs (two zs w))
      altering_alike Putting x bs whole chosen zs xs w is = tops xs _ _ (λ v ys. whole_alike (Alter Putting x bs) is (with_part_at_all chosen whole v w.left) x zs ys w (first []) (λ y. refl))
      altering_alike (Combining o) x bs whole chosen zs xs w is = tops xs _ _ (λ v ys. whole_alike (Alter (Combining o) x bs) is (combined chosen whole (λ part now. op_of o (part ∷ v ∷ []) now) w.left) x zs ys w (first []) (λ y. refl))
      altering_alike (TakingOut q) x bs whole chosen zs xs w is = outcomes (part_at_all chosen whole w.left) line zs w _ _ (λ part l. taken_alike (take_out q part) q x bs whole chosen zs xs (record w { left = l }) is)

      alter_alike : (a : Alteration) (x : Variable) (bs : List Bracket) → Is b.steps at line (Alter a x bs) → Alike (Alter a x bs)
      alter_alike a x bs is xs w = pops (popped (length bs) [] xs) _ _ (λ vs ys. holds (held x (one xs w)) (held x (two xs w)) _ _ (held_same (Alter a x bs) is xs w x (variable_itself x)) (λ whole. altering_alike a x bs whole (selected_by bs vs) xs ys w is))

      -- ---- calls, `ok` and `fail`

      -- what waits at the next step
      waits : (i : Instr) → Is b.steps at line i → (xs : List Operand) → Contains (successors i (suc at)) (suc at) → ((y : Variable) → is_written i y ≡ false) → AlikeActivation (Dead declared c) (record { body = n; at = suc at; own = own; operands = xs }) (record { body = n; at = suc at; own = marked; operands = xs })
      waits i is xs within kept_ = record { same = refl; own = still_all i is (suc at) within kept_ }

      calling_alike : (f : ℕ) (d : Body) (ss : List Step) (xs : List Operand) (w : World) → Is b.steps at line (CallBody f) → Both (call_body f (Some d) line (one xs w)) (call_body f (Some (record d { steps = ss })) line (two xs w))
      calling_alike f d ss xs w is =
          pops (popped (length d.parameters) [] xs) _ _ (λ vs ys.
          turns xs w _ _ (λ l. called vs (record { globals = refl; world = refl; now = record { same = refl; own = λ x. inl refl }; callers = (waits (CallBody f) is ys (first []) (λ y. refl), callers); kept = kept })))
        where
          called : {k e : CodeCore} {told : List Event} (vs : List (Option Datum)) → AlikeCore (Dead declared c) k e → Both (Moves [] told k line (bindings f d.parameters vs)) (Moves [] told e line (bindings f d.parameters vs))
          called {k} {e} vs h = both (weak k e h) (stores_kept (Dead declared c) (bindings f d.parameters vs) k e h)

      call_alike : (f : ℕ) → Is b.steps at line (CallBody f) → Alike (CallBody f)
      call_alike f is xs w = go (slice_get c.bodies f) (slice_get m.bodies f) (marking.bodies f)
        where
          go : (o p : Option Body) → MarksBodies declared f o p → Both (call_body f o line (one xs w)) (call_body f p line (two xs w))
          go None None h = halt
          go None (Some e) h = absurd h
          go (Some d) None h = absurd h
          go (Some d) (Some e) h = subst (λ (z : Body). Both (call_body f (Some d) line (one xs w)) (call_body f (Some z) line (two xs w))) (sym h.rest) (calling_alike f d e.steps xs w is)

      returning_alike : (e : Body) (v : Option Datum) (xs : List Operand) (w : World) (acts2 ms2 : List Activation) → e ≡ record b { steps = e.steps } → Is b.steps at line ReturnTop → AlikeActivations (Dead declared c) acts2 ms2 → Both (return_to (Some b) v (one xs w) acts2) (return_to (Some e) v (two xs w) ms2)
      returning_alike e v xs w [] [] same is h = halt
      returning_alike e v xs w [] (y ∷ ys) same is h = absurd h
      returning_alike e v xs w (x ∷ rest) [] same is h = absurd h
      returning_alike e v xs w (x ∷ rest) (y ∷ ys) same is h =
          subst (λ (z : Body). Both (return_to (Some b) v (one xs w) (x ∷ rest)) (return_to (Some z) v (two xs w) (y ∷ ys))) (sym same)
          (subst (λ (z : Activation). Both (return_to (Some b) v (one xs w) (x ∷ rest)) (return_to (Some (record b { steps = e.steps })) v (two xs w) (z ∷ ys))) (sym h.0.same)
          (subst (λ (o : Option (List Operand)). Both (return_to (Some b) v (one xs w) (x ∷ rest)) (on_rest o (λ zs. Moves [] (Returned b.name ∷ []) (record (two xs w) { now = record (record x { own = y.own }) { operands = zs }; callers = ys }) 0 [])))
          (sym (handed_same n b.parameters own marked (Result v ∷ x.operands) (λ z hand. read_same ReturnTop is z hand)))
          (rests (handed_back n b.parameters own (Result v ∷ x.operands)) _ _ (λ zs.
          silent [] (Returned b.name ∷ []) _ _ (record { globals = refl; world = refl; now = record { same = refl; own = h.0.own }; callers = h.1; kept = kept })))))

      return_alike : Is b.steps at line ReturnTop → Alike ReturnTop
      return_alike is xs w = tops xs _ _ (λ v ys. go v (slice_get c.bodies n) (slice_get m.bodies n) has (marking.bodies n))
        where
          go : (v : Option Datum) (o p : Option Body) → o ≡ Some b → MarksBodies declared n o p → Both (return_to o v (one xs w) acts) (return_to p v (two xs w) ms)
          go v None p there h = cc
          go v (Some d) None there h = absurd h
          go v (Some d) (Some e) there h =
              let same : d ≡ b = cc in
              subst (λ (z : Body). Both (return_to (Some z) v (one xs w) acts) (return_to (Some e) v (two xs w) ms)) (sym same)
              (returning_alike e v xs w acts ms (h.rest ∙ ap (λ (z : Body). record z { steps = e.steps }) same) is callers)

      keep_alike : Is b.steps at line KeepAll → Alike KeepAll
      keep_alike is xs w = silent [] (Kept ∷ []) _ _ (record { globals = refl; world = refl; now = waits KeepAll is (Result (Some (bool true)) ∷ xs) (first []) (λ y. refl); callers = callers; kept = (record { globals = refl; now = waits KeepAll is xs (first []) (λ y. refl); callers = callers }, kept) })

      backing_alike : (ks ls : List Copy) (xs : List Operand) (w : World) → AlikeCopies (Dead declared c) ks ls → Both (go_back line ks (one xs w)) (go_back line ls (two xs w))
      backing_alike [] [] xs w h = halt
      backing_alike [] (l ∷ ls) xs w h = absurd h
      backing_alike (k ∷ ks) [] xs w h = absurd h
      backing_alike (k ∷ ks) (l ∷ ls) xs w h = turns xs w _ _ (λ r. silent [] (Back ∷ []) _ _ (record { globals = h.0.globals; world = refl; now = record { same = ap (λ (a : Activation). record a { operands = Result (Some (bool false)) ∷ a.operands }) h.0.now.same; own = h.0.now.own }; callers = h.0.callers; kept = h.1 }))

      forget_alike : (ks ls : List Copy) (xs : List Operand) (w : World) → Is b.steps at line ForgetKept → AlikeCopies (Dead declared c) ks ls → Both (forget_kept line ks (one xs w)) (forget_kept line ls (two xs w))
      forget_alike [] [] xs w is h = halt
      forget_alike [] (l ∷ ls) xs w is h = absurd h
      forget_alike (k ∷ ks) [] xs w is h = absurd h
      forget_alike (k ∷ ks) (l ∷ ls) xs w is h = silent [] (Forgot ∷ []) _ _ (record { globals = refl; world = refl; now = waits ForgetKept is xs (first []) (λ y. refl); callers = callers; kept = h.1 })

      -- ---- all

      pub instr_alike : (i : Instr) → Is b.steps at line i → Alike i
      instr_alike (Push v) is xs w = on (Push v) is xs (Result v ∷ xs) w (first []) (λ y. refl)
      instr_alike PushAtom is xs w = atom_alike is xs w
      instr_alike PushEof is xs w = on PushEof is xs (Result (Some (bool w.eof)) ∷ xs) w (first []) (λ y. refl)
      instr_alike (Load x) is xs w = load_alike x is xs w
      instr_alike (Take x) is xs w = take_alike x is xs w
      instr_alike (StoreIn x) is xs w = tops xs _ _ (λ v ys. stores (StoreIn x) is x v xs ys w (first []) (λ y other. other))
      instr_alike (Operate o k) is xs w = pops (popped k [] xs) _ _ (λ vs ys. outcomes (op_of o vs w.left) line xs w _ _ (λ v l. on (Operate o k) is xs (Result v ∷ ys) (record w { left = l }) (first []) (λ y. refl)))
      instr_alike (Alter a x bs) is xs w = alter_alike a x bs is xs w
      instr_alike (Decides o to) is xs w = tops xs _ _ (λ v ys. decides_alike o to v xs ys w is)
      instr_alike TestBool is xs w = tops xs _ _ (λ v ys. (let goes : Both (next (Result v ∷ ys) (one xs w)) (next (Result v ∷ ys) (two xs w)) = on TestBool is xs (Result v ∷ ys) w (first []) (λ y. refl) in branches v line _ _ _ _ goes goes))
      instr_alike (Unless to) is xs w = tops xs _ _ (λ v ys. branches v line _ _ _ _ (on (Unless to) is xs ys w (first (to ∷ [])) (λ y. refl)) (lands (Unless to) is [] [] to xs ys w (second []) (λ y. refl)))
      instr_alike (Jump to) is xs w = lands (Jump to) is [] [] to xs xs w (first []) (λ y. refl)
      instr_alike DropTop is xs w = tops xs _ _ (λ v ys. on DropTop is xs ys w (first []) (λ y. refl))
      instr_alike DupTop is xs w = tops xs _ _ (λ v ys. on DupTop is xs (Result v ∷ Result v ∷ ys) w (first []) (λ y. refl))
      instr_alike (PartsOf k) is xs w = tops xs _ _ (λ v ys. apart_alike k v xs ys w is)
      instr_alike (BeginOver o k) is xs w = pops (popped k [] xs) _ _ (λ vs ys. begun_alike (items_of o vs) o k xs ys w is)
      instr_alike (NextOr to) is xs w = next_alike to xs xs w is
      instr_alike (BeginOf o) is xs w = on (BeginOf o) is xs (Collecting o [] ∷ xs) w (first []) (λ y. refl)
      instr_alike (AddBelow k) is xs w = tops xs _ _ (λ v ys. added_alike (added k v ys) k xs w is)
      instr_alike (LeaveAll k) is xs w = rests (without_iterators k xs) _ _ (λ ys. on (LeaveAll k) is xs ys w (first []) (λ y. refl))
      instr_alike PayRound is xs w = turns xs w _ _ (λ l. on PayRound is xs xs (record w { left = l }) (first []) (λ y. refl))
      instr_alike (CallBody f) is xs w = call_alike f is xs w
      instr_alike ReturnTop is xs w = return_alike is xs w
      instr_alike KeepAll is xs w = keep_alike is xs w
      instr_alike GoBack is xs w = backing_alike cs ds xs w kept
      instr_alike ForgetKept is xs w = forget_alike cs ds xs w is kept
      instr_alike (PrintTop k) is xs w = pops (popped k [] xs) _ _ (λ vs ys. lands (PrintTop k) is (print_line vs) (Printed (print_line vs) ∷ []) (suc at) xs ys w (first []) (λ y. refl))
      instr_alike ReadOne is xs w = read_alike (read_denotation w.input) xs w is
      instr_alike StopRun is xs w = halt
