-- Slots stand for variables of their own, so what a step does with a slot it does with its variable.
use Rattle.std.proofs.Common.{◌≡◌, ◌∙◌, ◌<◌, ℕ, zero, suc, Bool, true, false, List, [], ◌∷◌, ◌++◌, map, length, get_or, nat_eq, refl, sym, ap, subst, arith, eq-eqb, eqb-true}
use Rattle.std.specs.Prelude.{◌&&◌, ◌||◌}
use Rattle.setl_tree.specs.declared.tree.Param.{Param}
use Rattle.setl_model_runs.specs.Variable.{Variable, Global, Own, is_variable}
use Rattle.setl_model_runs.specs.VariableLaws.{same_variable, variable_itself}
use Rattle.setl_program.specs.ProgramOf.{parameter_of}
use Rattle.setl_code.specs.declared.code.Slot.{Slot}
use Rattle.setl_code.specs.declared.code.Slot.TheVariants as slot
use Rattle.setl_code.specs.declared.code.OwnName.{OwnName}
use Rattle.setl_code.specs.declared.code.OwnName.TheVariants as name
use Rattle.setl_code.specs.declared.code.Instr.{Instr}
use Rattle.setl_code.specs.declared.code.Instr.TheVariants as i
use Rattle.setl_code.specs.declared.code.Body.{Body}
use Rattle.setl_code.specs.Names.{is_among}
use Rattle.setl_code.specs.Plain.{plain_name, own_variables, variable_at, Variables, plain_slot, plain_instr, plain_body}
use Rattle.setl_code.specs.MayRun.{HasSlot, InstrFits, Differ}
use Rattle.setl_code.specs.Sound.{is_back, is_handed, is_read, is_written}
use Rattle.setl_live_reads.specs.Paths.{reads_slot, writes_slot}
use Rattle.setl_live.specs.Nodes.{reads_at, writes_at, access, handed}

-- ---- variables

or_false : (a b : Bool) → a || b ≡ false → (a ≡ false) × (b ≡ false)
or_false false b h = (refl, h)
or_false true b h = cc

apart : (x : Variable) (xs : List Variable) (k : ℕ) → is_among xs x ≡ false → k < length xs → is_variable x (variable_at xs k) ≡ false
apart x [] k h within = absurd (omega arith)
apart x (y ∷ xs) zero h within = (or_false (is_variable x y) (is_among xs x) h).0
apart x (y ∷ xs) (suc k) h within = let less : k < length xs = omega arith in apart x xs k (or_false (is_variable x y) (is_among xs x) h).1 less

turned : (x y : Variable) → is_variable x y ≡ false → is_variable y x ≡ false
turned x y h = go (is_variable y x) refl
  where
    go : (b : Bool) → is_variable y x ≡ b → b ≡ false
    go false is = refl
    go true is =
        let same : y ≡ x = same_variable y x is in
        let one : is_variable x y ≡ true = subst (λ (z : Variable). is_variable x z ≡ true) (sym same) (variable_itself x) in
        sym one ∙ h

-- two slots are one where their variables are
pub one_slot : (xs : List Variable) (j k : ℕ) → Differ xs → j < length xs → k < length xs → is_variable (variable_at xs j) (variable_at xs k) ≡ nat_eq j k
one_slot [] j k d a b = absurd (omega arith)
one_slot (x ∷ xs) zero zero d a b = variable_itself x ∙ sym (eq-eqb 0 0 refl)
one_slot (x ∷ xs) zero (suc k) d a b = let less : k < length xs = omega arith in apart x xs k d.0 less ∙ unlike k
  where
    unlike : (k : ℕ) → false ≡ nat_eq 0 (suc k)
    unlike k = go (nat_eq 0 (suc k)) refl
      where
        go : (b : Bool) → nat_eq 0 (suc k) ≡ b → false ≡ b
        go false h = refl
        go true h = absurd (let same : 0 ≡ suc k = eqb-true 0 (suc k) h in omega arith)
one_slot (x ∷ xs) (suc j) zero d a b = let less : j < length xs = omega arith in turned x (variable_at xs j) (apart x xs j d.0 less) ∙ unlike j
  where
    unlike : (k : ℕ) → false ≡ nat_eq (suc k) 0
    unlike k = go (nat_eq (suc k) 0) refl
      where
        go : (b : Bool) → nat_eq (suc k) 0 ≡ b → false ≡ b
        go false h = refl
        go true h = absurd (let same : suc k ≡ 0 = eqb-true (suc k) 0 h in omega arith)
one_slot (x ∷ xs) (suc j) (suc k) d a b =
    let one : j < length xs = omega arith in
    let two : k < length xs = omega arith in
    one_slot xs j k d.1 one two ∙ step (nat_eq j k) (nat_eq (suc j) (suc k)) refl refl
  where
    step : (p q : Bool) → nat_eq j k ≡ p → nat_eq (suc j) (suc k) ≡ q → p ≡ q
    step true true h g = refl
    step false false h g = refl
    step true false h g = absurd (let same : suc j ≡ suc k = ap suc (eqb-true j k h) in no (sym g ∙ eq-eqb (suc j) (suc k) same))
      where
        no : false ≡ true → ⊥
        no q = cc
    step false true h g = absurd (let up : suc j ≡ suc k = eqb-true (suc j) (suc k) g in let same : j ≡ k = omega arith in no (sym h ∙ eq-eqb j k same))
      where
        no : false ≡ true → ⊥
        no q = cc

-- a variable of the whole program is none of a body's own
pub no_global : (v : List ℕ) (n : ℕ) (ps : List Param) (names : List OwnName) (k : ℕ) → is_variable (Global v) (variable_at (own_variables n ps names) k) ≡ false
no_global v n [] [] k = refl
no_global v n [] (name.Body x ∷ names) zero = refl
no_global v n [] (name.Former f x ∷ names) zero = refl
no_global v n [] (m ∷ names) (suc k) = no_global v n [] names k
no_global v n (p ∷ ps) names zero = refl
no_global v n (p ∷ ps) names (suc k) = no_global v n ps names k

globals_apart : (vars : List (List ℕ)) (j n : ℕ) (ps : List Param) (names : List OwnName) (k : ℕ) → j < length vars → is_variable (variable_at (map Global vars) j) (variable_at (own_variables n ps names) k) ≡ false
globals_apart [] j n ps names k within = absurd (omega arith)
globals_apart (v ∷ vars) zero n ps names k within = no_global v n ps names k
globals_apart (v ∷ vars) (suc j) n ps names k within = let less : j < length vars = omega arith in globals_apart vars j n ps names k less

-- ---- what is handed back

none_handed : (n : ℕ) (ps : List Param) (ys : List Variable) (x : Variable) → is_among (map (λ p. Own n p.name) ps ++ ys) x ≡ false → is_handed n (map parameter_of ps) x ≡ false
none_handed n [] ys x h = refl
none_handed n (p ∷ ps) ys x h =
    let two = or_false (is_variable x (Own n p.name)) (is_among (map (λ q. Own n q.name) ps ++ ys) x) h in
    rw (turned x (Own n p.name) two.0, none_handed n ps ys x two.1) (both (is_back p.passing))
  where
    both : (b : Bool) → (b && false) || false ≡ false
    both true = refl
    both false = refl

pub same_handed : (n : ℕ) (ps : List Param) (ys : List Variable) (k : ℕ) → Differ (map (λ p. Own n p.name) ps ++ ys) → k < length (map (λ p. Own n p.name) ps ++ ys) → is_handed n (map parameter_of ps) (variable_at (map (λ p. Own n p.name) ps ++ ys) k) ≡ get_or (handed ps) k false
same_handed n [] ys k d within = refl
same_handed n (p ∷ ps) ys zero d within = rw (variable_itself (Own n p.name), none_handed n ps ys (Own n p.name) d.0) (alone (is_back p.passing))
  where
    alone : (b : Bool) → (b && true) || false ≡ b
    alone true = refl
    alone false = refl
same_handed n (p ∷ ps) ys (suc k) d within =
    let less : k < length (map (λ q. Own n q.name) ps ++ ys) = omega arith in
    rw (apart (Own n p.name) (map (λ q. Own n q.name) ps ++ ys) k d.0 less) (alone (is_back p.passing) (same_handed n ps ys k d.1 less))
  where
    alone : (b : Bool) {c d : Bool} → c ≡ d → (b && false) || c ≡ d
    alone true h = h
    alone false h = h

-- ---- instructions

module _ (vars : List (List ℕ)) (n : ℕ) (b : Body) (differ : Differ (own_variables n b.parameters b.names)) (k : ℕ) (within : k < length (own_variables n b.parameters b.names)) where
  abbrev own : List Variable
  own = own_variables n b.parameters b.names

  abbrev xs : Variables
  xs = record { global = map Global vars; own = own }

  abbrev x : Variable
  x = variable_at own k

  slot_read : (s : Slot) → HasSlot (length vars) (length own) s → is_variable (plain_slot xs s) x ≡ reads_slot (handed b.parameters) (reads_at s) k
  slot_read (slot.Global j) has = globals_apart vars j n b.parameters b.names k has
  slot_read (slot.Own j) has = one_slot own j k differ has within

  slot_written : (s : Slot) → HasSlot (length vars) (length own) s → is_variable (plain_slot xs s) x ≡ writes_slot (writes_at s) k
  slot_written (slot.Global j) has = globals_apart vars j n b.parameters b.names k has
  slot_written (slot.Own j) has = one_slot own j k differ has within

  unwritten : (s : Slot) → writes_slot (reads_at s) k ≡ false
  unwritten (slot.Global j) = refl
  unwritten (slot.Own j) = refl

  unread : (s : Slot) → reads_slot (handed b.parameters) (writes_at s) k ≡ false
  unread (slot.Global j) = refl
  unread (slot.Own j) = refl

  pub same_read : (what : Instr) → InstrFits (length vars) (length own) what → is_read n (plain_body (map Global vars) n b) (plain_instr xs what) x ≡ reads_slot (handed b.parameters) (access what) k
  same_read (i.Load s) fits = slot_read s fits
  same_read (i.Take s) fits = slot_read s fits
  same_read (i.Store s) fits = sym (unread s)
  same_read (i.Alter a s bs) fits = slot_read s fits.0
  same_read i.Return fits = same_handed n b.parameters (map (plain_name n) b.names) k differ within
  same_read what fits = refl

  pub same_written : (what : Instr) → InstrFits (length vars) (length own) what → is_written (plain_instr xs what) x ≡ writes_slot (access what) k
  same_written (i.Load s) fits = sym (unwritten s)
  same_written (i.Take s) fits = sym (unwritten s)
  same_written (i.Store s) fits = slot_written s fits
  same_written (i.Alter a s bs) fits = sym (unwritten s)
  same_written what fits = refl
