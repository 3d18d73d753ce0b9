-- What a test of takes tells.
use Rattle.std.proofs.Common.{◌≡◌, ◌∙◌, ◌<◌, ◌+◌, ℕ, zero, suc, Bool, true, false, List, [], ◌∷◌, map, length, get_or, Option, Some, None, refl, sym, ap, subst, arith}
use Rattle.std.specs.Prelude.{slice_get, ◌&&◌, not, ◌↔◌, IsTrue}
use Rattle.setl_model_runs.specs.Variable.{Variable, Global}
use Rattle.setl_code.specs.declared.code.Slot.{Slot}
use Rattle.setl_code.specs.declared.code.Slot.TheVariants as slot
use Rattle.setl_code.specs.declared.code.Instr.{Instr}
use Rattle.setl_code.specs.declared.code.Instr.TheVariants as i
use Rattle.setl_code.specs.declared.code.Step.{Step}
use Rattle.setl_code.specs.declared.code.Body.{Body}
use Rattle.setl_code.specs.Code as plain
use Rattle.setl_code.specs.Plain.{own_variables, variable_at, Variables, plain_slot, plain_instr, plain_step, plain_body}
use Rattle.setl_code.specs.MayRun.{InstrFits, StepsFit, Differ}
use Rattle.setl_code.specs.Sound.{ReadLater, may_take}
use Rattle.setl_live_reads.specs.declared.node.Access.TheVariants.{Read}
use Rattle.setl_live_reads.specs.declared.node.Node.{Node}
use Rattle.setl_live_reads.specs.Paths.{IsRight}
use Rattle.setl_live_reads.specs.Paths as nodes
use Rattle.setl_live.specs.Nodes.{access, node, handed, MayTake, refused_in}
use Rattle.setl_live.specs.Slots.{OnlyMain, TellsDeclared}
use Rattle.setl_live.specs.Takes.{TakesLast, TellsTakes, is_right, AreRight, WrongTake}
use Rattle.setl_live.proofs.Paths.{mapped_from, mapped_to, fits_at, to_nodes, from_nodes}
use Rattle.setl_live.proofs.Bodies.{own_count, globals_stay, table_right}

no : {p : Bool} → p ≡ false → p ≡ true → ⊥
no h g = cc

next_is : (at : ℕ) → suc at ≡ at + 1
next_is at = omega arith

both : (a b : Bool) → a && b ≡ true → (a ≡ true) × (b ≡ true)
both true b h = (refl, h)
both false b h = cc

-- the slot that is taken
record Taken (xs : Variables) (what : Instr) (x : Variable) : Type 0 where
  slot : Slot
  is : what ≡ i.Take slot
  variable : plain_slot xs slot ≡ x

taken_of : (xs : Variables) (what : Instr) (x : Variable) → plain_instr xs what ≡ plain.Take x → Taken xs what x
taken_of xs (i.Take s) x h = let same : plain_slot xs s ≡ x = cc in record { slot = s; is = refl; variable = same }
taken_of xs what x h = cc

module _ (declared : List Variable) (vars : List (List ℕ)) (n : ℕ) (b : Body) (differ : Differ (own_variables n b.parameters b.names)) (fit : StepsFit (length vars) (length (own_variables n b.parameters b.names)) b.steps) (refused : List Bool) (table : MayTake declared n b refused) (marks : List Bool) (right : (at x : ℕ) (m : Node) → slice_get (map node b.steps) at ≡ Some m → m.access ≡ Read x → IsRight (map node b.steps) (handed b.parameters) marks at x) where
  abbrev variables : Variables
  variables = record { global = map Global vars; own = own_variables n b.parameters b.names }

  abbrev whole : plain.Body
  whole = plain_body (map Global vars) n b

  abbrev Last : ℕ → Variable → Type 0
  Last at x = (may_take declared x ≡ true) × (ReadLater n whole x (suc at) → ⊥)

  known : (at k : ℕ) (s : Step) → slice_get b.steps at ≡ Some s → s.what ≡ i.Take (slot.Own k) → IsRight (map node b.steps) (handed b.parameters) marks at k
  known at k s is takes = right at k (node s) (mapped_to node b.steps at s is) (ap access takes)

  -- a right take is a last use
  take_last : (at : ℕ) (s : Step) (t : Slot) → slice_get b.steps at ≡ Some s → s.what ≡ i.Take t → InstrFits (length vars) (length (own_variables n b.parameters b.names)) (i.Take t) → is_right (get_or marks at false) refused (i.Take t) ≡ true → Last at (plain_slot variables t)
  take_last at s (slot.Global j) is takes fits ok = cc
  take_last at s (slot.Own k) is takes fits ok =
      let two = both (get_or marks at false) (not (get_or refused k false)) ok in
      (sym (table k fits) ∙ two.1, λ read. (known at k s is takes).0 two.0 (subst (λ (a : ℕ). nodes.ReadLater (map node b.steps) (handed b.parameters) k a) (next_is at) (to_nodes vars n b differ fit k fits (suc at) read)))

  all_last : AreRight marks refused b.steps → TakesLast declared n whole
  all_last ok at line x is =
      let m = mapped_from (plain_step variables) b.steps at (line, plain.Take x) is in
      let t = taken_of variables m.item.what x (ap (λ (p : plain.Step). p.1) m.gives) in
      let fits = subst (InstrFits (length vars) (length (own_variables n b.parameters b.names))) t.is (fits_at _ _ b.steps at m.item fit m.is) in
      subst (Last at) t.variable (take_last at m.item t.slot m.is t.is fits (subst (λ (w : Instr). is_right (get_or marks at false) refused w ≡ true) t.is (ok at m.item m.is)))

  -- a wrong one isn't
  not_last : (at : ℕ) (s : Step) (what : Instr) → slice_get b.steps at ≡ Some s → s.what ≡ what → InstrFits (length vars) (length (own_variables n b.parameters b.names)) what → is_right (get_or marks at false) refused what ≡ false → TakesLast declared n whole → ⊥
  not_last at s (i.Take (slot.Own k)) is takes fits wrong last = go (get_or marks at false) (not (get_or refused k false)) refl refl wrong
    where
      step_is : slice_get whole.steps at ≡ Some (s.line, plain.Take (variable_at (own_variables n b.parameters b.names) k))
      step_is = mapped_to (plain_step variables) b.steps at s is ∙ ap (λ (w : Instr). Some (s.line, plain_instr variables w)) takes

      go : (m r : Bool) → get_or marks at false ≡ m → not (get_or refused k false) ≡ r → m && r ≡ false → ⊥
      go true true a c h = cc
      go true false a c h = no (sym (table k fits) ∙ c) (last at s.line (variable_at (own_variables n b.parameters b.names) k) step_is).0
      go false r a c h =
          (last at s.line (variable_at (own_variables n b.parameters b.names) k) step_is).1
          (from_nodes vars n b differ fit k fits (suc at) (subst (λ (j : ℕ). nodes.ReadLater (map node b.steps) (handed b.parameters) k j) (sym (next_is at)) ((known at k s is takes).1 a)))
  not_last at s (i.Take (slot.Global j)) is takes fits wrong last =
      no (globals_stay declared vars j fits) (last at s.line (variable_at (map Global vars) j) (mapped_to (plain_step variables) b.steps at s is ∙ ap (λ (w : Instr). Some (s.line, plain_instr variables w)) takes)).0
  not_last at s what is takes fits wrong last = cc

  none_last : WrongTake marks refused b.steps → TakesLast declared n whole → ⊥
  none_last w last = not_last w.at w.step w.step.what w.is refl (fits_at _ _ b.steps w.at w.step fit w.is) w.wrong last

  tells_by : (so : Bool) → (so ≡ true → AreRight marks refused b.steps) → (so ≡ false → WrongTake marks refused b.steps) → IsTrue so ↔ TakesLast declared n whole
  tells_by true good nope = ((λ h. all_last (good refl)), λ last. refl)
  tells_by false good nope = ((λ h. cc), λ last. absurd (none_last (nope refl) last))

-- the answer of a test of takes
pub takes_tell : (declared : List Variable) (vars : List (List ℕ)) (n : ℕ) (b : Body) (table marks : List Bool) (so : Bool)
    → ((at x : ℕ) (m : Node) → slice_get (map node b.steps) at ≡ Some m → m.access ≡ Read x → IsRight (map node b.steps) (handed b.parameters) marks at x)
    → (so ≡ true → AreRight marks (refused_in table n) b.steps) → (so ≡ false → WrongTake marks (refused_in table n) b.steps)
    → TellsTakes so declared vars n b table
takes_tell declared vars n b table marks so right good nope only tells differ fit =
    tells_by declared vars n b differ (subst (λ (o : ℕ). StepsFit (length vars) o b.steps) (sym (own_count n b.parameters b.names)) fit) (refused_in table n) (table_right declared only table n b tells) marks right so good nope

-- the same by what the code holds
pub takes_tell_by : (declared : List Variable) (vars : List (List ℕ)) (n : ℕ) (b : Body) (table marks : List Bool) (so : Bool)
    → ((at x : ℕ) (m : Node) → slice_get (map node b.steps) at ≡ Some m → m.access ≡ Read x → IsRight (map node b.steps) (handed b.parameters) marks at x)
    → (ms rs : List Bool) (ss : List Step) → ms ≡ marks → rs ≡ refused_in table n → ss ≡ b.steps
    → (so ≡ true → AreRight ms rs ss) → (so ≡ false → WrongTake ms rs ss)
    → TellsTakes so declared vars n b table
takes_tell_by declared vars n b table marks so right ms rs ss one two three good nope =
    takes_tell declared vars n b table marks so right
    (λ h. subst (λ (xs : List Bool). AreRight xs (refused_in table n) b.steps) one (subst (λ (xs : List Bool). AreRight ms xs b.steps) two (subst (λ (xs : List Step). AreRight ms rs xs) three (good h))))
    (λ h. subst (λ (xs : List Bool). WrongTake xs (refused_in table n) b.steps) one (subst (λ (xs : List Bool). WrongTake ms xs b.steps) two (subst (λ (xs : List Step). WrongTake ms rs xs) three (nope h))))
