-- What the test of instructions tells of plain code.
use Rattle.std.proofs.Common.{◌≡◌, ◌∙◌, ◌<◌, ◌+◌, ◌-◌, ℕ, zero, suc, Bool, true, false, List, [], ◌∷◌, ◌++◌, map, length, nat_eq, Option, Some, None, refl, sym, ap, subst, arith, eq-eqb, eqb-true}
use Rattle.std.specs.Prelude.{slice_get, ◌&&◌, ◌||◌, ◌↔◌, IsTrue, nat_lt}
use Rattle.std.specs.Option.{option_map}
use Rattle.std.proofs.lemmas.Bool.{ltb-true, lt-ltb}
use Rattle.std.proofs.lemmas.List.{length-append, length-map}
use Rattle.setl_tree.specs.declared.tree.Param.{Param}
use Rattle.setl_operators_table.specs.declared.Operator.{Operator}
use Rattle.setl_operators_table.specs.declared.Operator.TheVariants as o
use Rattle.setl_operators_table.specs.Operators.{operand_count, IsCount, TakesOperands}
use Rattle.setl_model_runs.specs.Variable.{Variable, Global, Own, is_variable}
use Rattle.setl_model_runs.specs.VariableLaws.{variable_itself}
use Rattle.setl_program.specs.Updating.{is_updating}
use Rattle.setl_program.specs.ProgramOf.{parameter_of}
use Rattle.setl_code.specs.declared.code.Slot.{Slot}
use Rattle.setl_code.specs.declared.code.Slot.TheVariants as slot
use Rattle.setl_code.specs.declared.code.OwnName.{OwnName}
use Rattle.setl_code.specs.declared.code.Alteration.{Alteration}
use Rattle.setl_code.specs.declared.code.Alteration.TheVariants as alteration
use Rattle.setl_code.specs.declared.code.Instr.{Instr}
use Rattle.setl_code.specs.declared.code.Instr.TheVariants as i
use Rattle.setl_code.specs.declared.code.Step.{Step}
use Rattle.setl_code.specs.declared.code.Body.{Body}
use Rattle.setl_code.specs.declared.code.Code.{Code}
use Rattle.setl_code.specs.Code as plain
use Rattle.setl_code.specs.CodeCore.{variables_of}
use Rattle.setl_code.specs.Names.{is_among}
use Rattle.setl_code.specs.Plain.{own_variables, plain_name, variable_at, Variables, plain_slot, plain_alteration, plain_instr, plain_step, plain_body, plain_bodies, plain_code}
use Rattle.setl_code.specs.MayRun.{InstrFits, StepsFit, CanAlter}
use Rattle.setl_code.specs.MayRun as may
use Rattle.setl_code.specs.Piece.{Is}
use Rattle.setl_code.specs.Sound.{Names, HasSlot, may_alter, is_last, last_step, ends_body, ClosedBody, StaysBelow}
use Rattle.setl_image_closed.specs.Closed.{IsClosed, has_slot, can_alter, is_count, names_there, all_there, ends, is_ended, last_of, counts_of}
use Rattle.setl_image_closed.specs.declared.closed.Counts.{Counts}

-- ---- lists

-- what stands in a mapped list comes from an item
record Mapped {A B : Type 0} (f : A → B) (xs : List A) (at : ℕ) (y : B) : Type 0 where
  item : A
  is : slice_get xs at ≡ Some item
  gives : f item ≡ y

mapped_from : {A B : Type 0} (f : A → B) (xs : List A) (at : ℕ) (y : B) → slice_get (map f xs) at ≡ Some y → Mapped f xs at y
mapped_from f [] at y h = cc
mapped_from f (x ∷ xs) zero y h = let same : f x ≡ y = cc in record { item = x; is = refl; gives = same }
mapped_from f (x ∷ xs) (suc at) y h = let m = mapped_from f xs at y h in record { item = m.item; is = m.is; gives = m.gives }

mapped_to : {A B : Type 0} (f : A → B) (xs : List A) (at : ℕ) (x : A) → slice_get xs at ≡ Some x → slice_get (map f xs) at ≡ Some (f x)
mapped_to f [] at x h = cc
mapped_to f (y ∷ xs) zero x h = let same : y ≡ x = cc in ap (λ z. Some (f z)) same
mapped_to f (y ∷ xs) (suc at) x h = mapped_to f xs at x h

-- ---- truth values and numbers

both : (a b : Bool) → a && b ≡ true → (a ≡ true) × (b ≡ true)
both true b h = (refl, h)
both false b h = cc

join : (a b : Bool) → a ≡ true → b ≡ true → a && b ≡ true
join true b h g = g
join false b h g = cc

less_of : (m n : ℕ) → nat_lt m n ≡ true → m < n
less_of m n h = ltb-true m n h

less_to : (m n : ℕ) → m < n → nat_lt m n ≡ true
less_to m n h = lt-ltb m n h

length_map : {A B : Type 0} (f : A → B) (xs : List A) → length (map f xs) ≡ length xs
length_map f [] = refl
length_map f (x ∷ xs) = ap suc (length_map f xs)

-- ---- slots

or_here : (a b : Bool) → a ≡ true → a || b ≡ true
or_here true b h = refl
or_here false b h = cc

or_there : (a b : Bool) → b ≡ true → a || b ≡ true
or_there true b h = refl
or_there false b h = h

among_at : (xs : List Variable) (k : ℕ) → k < length xs → is_among xs (variable_at xs k) ≡ true
among_at [] k within = absurd (omega arith)
among_at (x ∷ xs) zero within = or_here (is_variable x x) (is_among xs x) (variable_itself x)
among_at (x ∷ xs) (suc k) within = let less : k < length xs = omega arith in or_there (is_variable (variable_at xs k) x) (is_among xs (variable_at xs k)) (among_at xs k less)

front_by : (b a d : Bool) → (a ≡ true → d ≡ true) → b || a ≡ true → b || d ≡ true
front_by true a d f h = refl
front_by false a d f h = f h

among_front : (xs ys : List Variable) (x : Variable) → is_among xs x ≡ true → is_among (xs ++ ys) x ≡ true
among_front [] ys x h = cc
among_front (z ∷ xs) ys x h = front_by (is_variable x z) (is_among xs x) (is_among (xs ++ ys) x) (λ g. among_front xs ys x g) h

among_behind : (xs ys : List Variable) (x : Variable) → is_among ys x ≡ true → is_among (xs ++ ys) x ≡ true
among_behind [] ys x h = h
among_behind (z ∷ xs) ys x h = or_there (is_variable x z) (is_among (xs ++ ys) x) (among_behind xs ys x h)

-- the variables of a plain body by slots
same_own : (n : ℕ) (vars : List Variable) (b : Body) → variables_of n (plain_body vars n b) ≡ own_variables n b.parameters b.names
same_own n vars b = ap (λ (xs : List Variable). xs ++ map (plain_name n) b.names) (go b.parameters)
  where
    go : (ps : List Param) → map (λ p. Own n p.name) (map parameter_of ps) ≡ map (λ p. Own n p.name) ps
    go [] = refl
    go (p ∷ ps) = ap (λ (xs : List Variable). Own n p.name ∷ xs) (go ps)

own_count : (n : ℕ) (ps : List Param) (names : List OwnName) → length (own_variables n ps names) ≡ length ps + length names
own_count n ps names = simp (length-append, length-map)

bodies_count : (vars : List Variable) (n : ℕ) (bs : List Body) → length (plain_bodies vars n bs) ≡ length bs
bodies_count vars n [] = refl
bodies_count vars n (b ∷ bs) = ap suc (bodies_count vars (suc n) bs)

-- ---- operators

counted : (m : Option ℕ) (n : ℕ) → is_count m n ≡ true → IsCount m n
counted None n h = tt
counted (Some m) n h = eqb-true n m h

to_counted : (m : Option ℕ) (n : ℕ) → IsCount m n → is_count m n ≡ true
to_counted None n h = refl
to_counted (Some m) n h = eq-eqb n m h

-- the operator of an update has two operands
two_operands : (what : Operator) → is_updating what ≡ true → operand_count what ≡ Some 2
two_operands o.Add h = refl
two_operands o.Subtract h = refl
two_operands o.Multiply h = refl
two_operands o.Power h = refl
two_operands o.Divide h = refl
two_operands o.Modulo h = refl
two_operands o.Max h = refl
two_operands o.Min h = refl
two_operands o.With h = refl
two_operands o.Less h = refl
two_operands o.Lessf h = refl
two_operands o.Npow h = refl
two_operands what h = cc

alters : (a : Alteration) → can_alter a ≡ true → CanAlter a × (may_alter (plain_alteration a) ≡ true)
alters alteration.Put h = (tt, refl)
alters (alteration.Combine what) h = (two_operands what h, h)
alters (alteration.TakeOut k) h = (tt, refl)

to_alters : (a : Alteration) → may_alter (plain_alteration a) ≡ true → can_alter a ≡ true
to_alters alteration.Put h = refl
to_alters (alteration.Combine what) h = h
to_alters (alteration.TakeOut k) h = refl

-- ---- instructions

module _ (c : Code) (n : ℕ) (b : Body) where
  abbrev xs : Variables
  xs = record { global = map Global c.vars; own = own_variables n b.parameters b.names }

  abbrev whole : plain.Body
  whole = plain_body (map Global c.vars) n b

  abbrev counts : Counts
  counts = counts_of c n b

  slot_fits : (s : Slot) → has_slot counts s ≡ true → may.HasSlot (length c.vars) (length b.parameters + length b.names) s
  slot_fits (slot.Global k) h = less_of k (length c.vars) h
  slot_fits (slot.Own k) h = less_of k (length b.parameters + length b.names) h

  to_slot : (s : Slot) → may.HasSlot (length c.vars) (length b.parameters + length b.names) s → has_slot counts s ≡ true
  to_slot (slot.Global k) h = less_to k (length c.vars) h
  to_slot (slot.Own k) h = less_to k (length b.parameters + length b.names) h

  slot_there : (s : Slot) → has_slot counts s ≡ true → HasSlot (plain_code c) n whole (plain_slot xs s)
  slot_there (slot.Global k) h =
      let less = less_of k (length c.vars) h in
      among_front (map Global c.vars) (variables_of n whole) (variable_at (map Global c.vars) k) (among_at (map Global c.vars) k (subst (λ m. k < m) (sym (length_map Global c.vars)) less))
  slot_there (slot.Own k) h =
      let less = less_of k (length b.parameters + length b.names) h in
      among_behind (map Global c.vars) (variables_of n whole) (variable_at (own_variables n b.parameters b.names) k)
      (subst (λ (ys : List Variable). is_among ys (variable_at (own_variables n b.parameters b.names) k) ≡ true) (sym (same_own n (map Global c.vars) b))
      (among_at (own_variables n b.parameters b.names) k (subst (λ m. k < m) (sym (own_count n b.parameters b.names)) less)))

  target_there : (to : ℕ) → nat_lt to (length b.steps) ≡ true → to < length whole.steps
  target_there to h = subst (λ m. to < m) (sym (length_map (plain_step xs) b.steps)) (less_of to (length b.steps) h)

  to_target : (to : ℕ) → to < length whole.steps → nat_lt to (length b.steps) ≡ true
  to_target to h = less_to to (length b.steps) (subst (λ m. to < m) (length_map (plain_step xs) b.steps) h)

  -- what an instruction keeps
  abbrev Keeps : Instr → Type 0
  Keeps what = InstrFits (length c.vars) (length b.parameters + length b.names) what × (Names (plain_code c) n whole (plain_instr xs what) × StaysBelow n (plain_instr xs what))

  keeps : (what : Instr) → names_there counts what ≡ true → Keeps what
  keeps (i.Load x) h = (slot_fits x h, (slot_there x h, tt))
  keeps (i.Take x) h = (slot_fits x h, (slot_there x h, tt))
  keeps (i.Store x) h = (slot_fits x h, (slot_there x h, tt))
  keeps (i.Operate what m) h = (counted (operand_count what) m h, (tt, tt))
  keeps (i.Alter a x bs) h =
      let two = both (has_slot counts x) (can_alter a) h in
      let alter = alters a two.1 in
      ((slot_fits x two.0, alter.0), ((slot_there x two.0, alter.1), tt))
  keeps (i.Decide k to) h = (tt, (target_there to h, tt))
  keeps (i.Unless to) h = (tt, (target_there to h, tt))
  keeps (i.Jump to) h = (tt, (target_there to h, tt))
  keeps (i.Next to) h = (tt, (target_there to h, tt))
  keeps (i.Call m) h =
      let two = both (nat_lt 0 m) (nat_lt m (length c.bodies)) h in
      (tt, (subst (λ k. m < k) (sym (bodies_count (map Global c.vars) 0 c.bodies)) (less_of m (length c.bodies) two.1), less_of 0 m two.0))
  keeps i.Return h = (tt, (tt, less_of 0 n h))
  keeps what h = (tt, (tt, tt))

  to_names : (what : Instr) → Keeps what → names_there counts what ≡ true
  to_names (i.Load x) h = to_slot x h.0
  to_names (i.Take x) h = to_slot x h.0
  to_names (i.Store x) h = to_slot x h.0
  to_names (i.Operate what m) h = to_counted (operand_count what) m h.0
  to_names (i.Alter a x bs) h = join (has_slot counts x) (can_alter a) (to_slot x h.0.0) (to_alters a h.1.0.1)
  to_names (i.Decide k to) h = to_target to h.1.0
  to_names (i.Unless to) h = to_target to h.1.0
  to_names (i.Jump to) h = to_target to h.1.0
  to_names (i.Next to) h = to_target to h.1.0
  to_names (i.Call m) h = join (nat_lt 0 m) (nat_lt m (length c.bodies)) (less_to 0 m h.1.1) (less_to m (length c.bodies) (subst (λ k. m < k) (bodies_count (map Global c.vars) 0 c.bodies) h.1.0))
  to_names i.Return h = less_to 0 n h.1.1
  to_names what h = refl

  -- ---- steps

  steps_fit : (ss : List Step) → all_there counts ss ≡ true → StepsFit (length c.vars) (length b.parameters + length b.names) ss
  steps_fit [] h = tt
  steps_fit (s ∷ ss) h =
      let two = both (names_there counts s.what) (all_there counts ss) h in
      ((keeps s.what two.0).0, steps_fit ss two.1)

  there_at : (ss : List Step) (at : ℕ) (s : Step) → all_there counts ss ≡ true → slice_get ss at ≡ Some s → names_there counts s.what ≡ true
  there_at [] at s h is = cc
  there_at (t ∷ ss) zero s h is = let same : t ≡ s = cc in subst (λ (u : Step). names_there counts u.what ≡ true) same (both (names_there counts t.what) (all_there counts ss) h).0
  there_at (t ∷ ss) (suc at) s h is = there_at ss at s (both (names_there counts t.what) (all_there counts ss) h).1 is

  all_keep : (ss : List Step) → StepsFit (length c.vars) (length b.parameters + length b.names) ss → ((at : ℕ) (s : Step) → slice_get ss at ≡ Some s → Names (plain_code c) n whole (plain_instr xs s.what) × StaysBelow n (plain_instr xs s.what)) → all_there counts ss ≡ true
  all_keep [] fit all = refl
  all_keep (s ∷ ss) fit all = join (names_there counts s.what) (all_there counts ss) (to_names s.what (fit.0, all 0 s refl)) (all_keep ss fit.1 (λ at t is. all (suc at) t is))

  -- ---- the last step

  same_end : (what : Instr) → is_last (plain_instr xs what) ≡ ends what
  same_end (i.Jump to) = refl
  same_end i.Return = refl
  same_end i.Back = refl
  same_end i.Stop = refl
  same_end what = refl

  last_plain : (ss : List Step) → last_step (map (plain_step xs) ss) ≡ option_map (plain_step xs) (last_of ss)
  last_plain [] = refl
  last_plain (s ∷ []) = refl
  last_plain (s ∷ t ∷ ss) = last_plain (t ∷ ss) ∙ ap (option_map (plain_step xs)) (go (length ss))
    where
      go : (m : ℕ) → slice_get (t ∷ ss) (suc m - 1) ≡ slice_get (s ∷ t ∷ ss) (suc (suc m) - 1)
      go m =
          let one : suc m - 1 ≡ m = omega arith in
          let two : suc (suc m) - 1 ≡ suc m = omega arith in
          ap (slice_get (t ∷ ss)) one ∙ sym (ap (slice_get (s ∷ t ∷ ss)) two)

  ended : (o : Option Step) → ends_body (option_map (plain_step xs) o) ≡ is_ended o
  ended None = refl
  ended (Some s) = same_end s.what

  same_ended : ends_body (last_step whole.steps) ≡ is_ended (last_of b.steps)
  same_ended = ap ends_body (last_plain b.steps) ∙ ended (last_of b.steps)

  -- ---- the whole

  closed_by : all_there counts b.steps ≡ true → is_ended (last_of b.steps) ≡ true → IsClosed c n b
  closed_by all last = record {
    fits = steps_fit b.steps all;
    closed = record { names = λ at line what is. (kept at line what is).0; last = same_ended ∙ last };
    below = λ at line what is. (kept at line what is).1;
  }
    where
      kept : (at line : ℕ) (what : plain.Instr) → Is whole.steps at line what → Names (plain_code c) n whole what × StaysBelow n what
      kept at line what is =
          let m = mapped_from (plain_step xs) b.steps at (line, what) is in
          subst (λ (w : plain.Instr). Names (plain_code c) n whole w × StaysBelow n w) (ap (λ (p : plain.Step). p.1) m.gives) (keeps m.item.what (there_at b.steps at m.item all m.is)).1

  all_of : IsClosed c n b → all_there counts b.steps ≡ true
  all_of is = all_keep b.steps is.fits (λ at s there. (
    is.closed.names at s.line (plain_instr xs s.what) (mapped_to (plain_step xs) b.steps at s there),
    is.below at s.line (plain_instr xs s.what) (mapped_to (plain_step xs) b.steps at s there),
  ))

  pub tells : IsTrue (all_there counts b.steps && is_ended (last_of b.steps)) ↔ IsClosed c n b
  tells = (
    λ h. (let two = both (all_there counts b.steps) (is_ended (last_of b.steps)) h in closed_by two.0 two.1),
    λ is. join (all_there counts b.steps) (is_ended (last_of b.steps)) (all_of is) (sym same_ended ∙ is.closed.last),
  )

-- both tests
module _ (c : Code) (n : ℕ) (b : Body) (counts : Counts) (ss tt' : List Step) (x y : Bool) (are : counts ≡ counts_of c n b) (one : ss ≡ b.steps) (two : tt' ≡ b.steps) (is : x ≡ all_there counts ss) (last : y ≡ is_ended (last_of tt')) where
  answer : IsTrue (x && y) ↔ IsClosed c n b
  answer =
      let same : x ≡ all_there (counts_of c n b) b.steps = is ∙ ap (λ (k : Counts). all_there k ss) are ∙ ap (all_there (counts_of c n b)) one in
      let ended : y ≡ is_ended (last_of b.steps) = last ∙ ap (λ (zs : List Step). is_ended (last_of zs)) two in
      rw (same, ended) (tells c n b)

  pub closed_then : x ≡ true → IsTrue y ↔ IsClosed c n b
  closed_then good = subst (λ (z : Bool). IsTrue (z && y) ↔ IsClosed c n b) good answer

  pub closed_else : x ≡ false → IsTrue x ↔ IsClosed c n b
  closed_else nope = subst (λ (z : Bool). IsTrue z ↔ IsClosed c n b) (sym nope) (subst (λ (z : Bool). IsTrue (z && y) ↔ IsClosed c n b) nope answer)
