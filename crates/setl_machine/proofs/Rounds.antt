-- Calls in a row, with what they take of an input.
use Rattle.std.proofs.Common.{◌≡◌, ◌∙◌, ◌⊎◌, ◌+◌, ◌≤◌, ℕ, Bool, List, [], ◌++◌, Option, None, Some, sym, ap, subst, append_assoc, arith}
use Rattle.setl_model.specs.Entered.{Base}
use Rattle.setl_model_runs.specs.Run.{step}
use Rattle.setl_code.specs.Code.{Code}
use Rattle.setl_code.specs.CodeCore.{CodeCore}
use Rattle.setl_code.specs.Machine.{machine}
use Rattle.setl_text.specs.code.Reads.{ahead, StaysHonest, TakesOff}
use Rattle.setl_machine_control.specs.Control.{ControlState, stood_for, IsRest}
use Rattle.setl_machine_control.specs.Declaring.{Modes, tested}
use Rattle.setl_machine_control.specs.Answers.{start}
use Rattle.setl_machine.specs.Gaining.{bases_by, NextGains, RunGains}
use Rattle.setl_machine.specs.Outcome.{Seen, seen, Steps, AtPrint, AtRead, Ran, ReadsOnly}
use Rattle.setl_machine.specs.Writing.{pieces_by, NextWrites, RunWrites}
use Rattle.setl_machine_control.specs.declared.end.End.{End}
use Rattle.setl_machine_control.specs.declared.end.End.TheVariants.{Paused, ReadFault, WriteFault, NoMemory}
use Rattle.setl_machine.proofs.Joining.{bases_in_parts, makes_join, makes_longer, makes_one}
use Rattle.setl_machine.proofs.Prints.{pieces_in_parts}
use Rattle.setl_machine.proofs.RanLaws.{ran_join, ran_one, ran_longer, ran_gives_up, reads_one, reads_join, reads_longer}

-- a core with a control, the outside, what is left of the input, bases, and a count of pieces
pub record Moment : Type 0 where
  pub core : CodeCore
  pub control : ControlState
  pub outside : Seen
  pub left : Option (List ℕ)
  pub bases : List Base
  pub pieces : Option ℕ

abbrev pub moment : CodeCore → ControlState → (held : Option (List ℕ)) → (faults input_faults : ℕ) → (left : Option (List ℕ)) (bases : List Base) (pieces : Option ℕ) → Moment
moment core control held faults input_faults left bases pieces =
    record { core = core; control = control; outside = seen held faults input_faults; left = left; bases = bases; pieces = pieces }

-- what a call of at most so many steps did, whatever is left to come then
abbrev pub Runs : Modes → Code → ℕ → Moment → Moment → End → Type 0
Runs modes c n old new e = (rest' : List ℕ) → IsRest (ahead new.control.reader.ended new.left) rest' →
    (rest : List ℕ) × IsRest (ahead old.control.reader.ended old.left) rest
    × Ran modes c n (stood_for old.core old.control rest) old.outside new.outside (stood_for new.core new.control rest') e
    × ReadsOnly modes c n (stood_for old.core old.control rest) old.outside.held new.outside.held old.left new.left
    × RunGains modes c n (stood_for old.core old.control rest) old.bases new.bases e
    × RunWrites modes c n (stood_for old.core old.control rest) old.pieces new.pieces e

pub runs_join : (modes : Modes) (c : Code) (n j : ℕ) (old mid new : Moment) (e : End) → Runs modes c n old mid Paused → Runs modes c j mid new e → Runs modes c (n + j) old new e
runs_join modes c n j old mid new e p q = λ rest' h.
    let b = q rest' h in
    let a = p b.0 b.1 in
    let from = stood_for old.core old.control a.0 in
    let there = stood_for mid.core mid.control b.0 in
    let to = stood_for new.core new.control rest' in (
      a.0,
      a.1,
      ran_join modes c n j from there to old.outside mid.outside new.outside e a.2 b.2,
      reads_join modes c n j from there to old.outside mid.outside new.outside e old.left mid.left new.left a.2 b.2 a.3 b.3,
      makes_join (bases_by modes) (bases_in_parts modes) modes c n j from there old.outside mid.outside old.bases mid.bases new.bases e a.2 a.4 b.4,
      makes_join pieces_by pieces_in_parts modes c n j from there old.outside mid.outside old.pieces mid.pieces new.pieces e a.2 a.5 b.5,
    )

pub runs_longer : (modes : Modes) (c : Code) (n k : ℕ) (old new : Moment) (e : End) → (e ≡ Paused → ⊥) → n ≤ k → Runs modes c n old new e → Runs modes c k old new e
runs_longer modes c n k old new e ne le p = λ rest' h.
    let a = p rest' h in
    let from = stood_for old.core old.control a.0 in
    let to = stood_for new.core new.control rest' in (
      a.0,
      a.1,
      ran_longer modes c n k from to old.outside new.outside e ne le a.2,
      reads_longer modes c n k from old.outside.held new.outside.held old.left new.left le a.3,
      makes_longer (bases_by modes) modes c n k from to old.outside new.outside old.bases new.bases e ne le a.2 a.4,
      makes_longer pieces_by modes c n k from to old.outside new.outside old.pieces new.pieces e ne le a.2 a.5,
    )

-- what a step did, whatever is left to come then
abbrev pub StepDid : Modes → Code → Moment → Moment → End → Type 0
StepDid modes c old new e = (rest' : List ℕ) → IsRest (ahead new.control.reader.ended new.left) rest' →
    (rest : List ℕ) × IsRest (ahead old.control.reader.ended old.left) rest
    × Steps modes (step (machine c) (tested modes) (start (stood_for old.core old.control rest))) old.outside new.outside (stood_for new.core new.control rest') e
    × NextGains modes (step (machine c) (tested modes) (start (stood_for old.core old.control rest))) old.bases new.bases e
    × NextWrites (step (machine c) (tested modes) (start (stood_for old.core old.control rest))) old.pieces new.pieces e

-- a step is a call of one step
pub runs_one : (modes : Modes) (c : Code) (old new : Moment) (e : End) → StepDid modes c old new e → (e ≡ ReadFault → AtRead c old.core) → (e ≡ WriteFault → AtPrint c old.core) → ((new.left ≡ old.left) ⊎ AtRead c old.core) → Runs modes c 1 old new e
runs_one modes c old new e did reads writes only = λ rest' h.
    let a = did rest' h in
    let from = stood_for old.core old.control a.0 in
    let to = stood_for new.core new.control rest' in
    let ran = ran_one modes c from to old.outside new.outside e reads writes a.2 in (
      a.0,
      a.1,
      ran,
      reads_one modes c from to old.outside new.outside e old.left new.left ran only,
      makes_one (bases_by modes) modes c from old.bases new.bases e a.3,
      makes_one pieces_by modes c from old.pieces new.pieces e a.4,
    )

-- one step more, of the same code
pub runs_on : (modes : Modes) (c d : Code) (n : ℕ) (old mid new : Moment) (e : End) → d ≡ c → Runs modes c n old mid Paused → StepDid modes d mid new e → (e ≡ ReadFault → AtRead d mid.core) → (e ≡ WriteFault → AtPrint d mid.core) → ((new.left ≡ mid.left) ⊎ AtRead d mid.core) → Runs modes c (n + 1) old new e
runs_on modes c d n old mid new e same p did reads writes only = runs_join modes c n 1 old mid new e p (subst (λ x. Runs modes x 1 mid new e) same (runs_one modes d mid new e did reads writes only))

-- a call more, of the same code
pub runs_then : (modes : Modes) (c d : Code) (n j k : ℕ) (old mid new : Moment) (e : End) → d ≡ c → n + j ≡ k → Runs modes c n old mid Paused → Runs modes d j mid new e → Runs modes c k old new e
runs_then modes c d n j k old mid new e same sum p q = subst (λ m. Runs modes c m old new e) sum (runs_join modes c n j old mid new e p (subst (λ x. Runs modes x j mid new e) same q))

-- a call of some number of steps
pub some_runs : (modes : Modes) (c : Code) (n : ℕ) (old new : Moment) (e : End) → Runs modes c n old new e → (rest' : List ℕ) → IsRest (ahead new.control.reader.ended new.left) rest' →
    (rest : List ℕ) × IsRest (ahead old.control.reader.ended old.left) rest
    × (n : ℕ) × Ran modes c n (stood_for old.core old.control rest) old.outside new.outside (stood_for new.core new.control rest') e
    × ReadsOnly modes c n (stood_for old.core old.control rest) old.outside.held new.outside.held old.left new.left
    × RunGains modes c n (stood_for old.core old.control rest) old.bases new.bases e
    × RunWrites modes c n (stood_for old.core old.control rest) old.pieces new.pieces e
some_runs modes c n old new e p = λ rest' h. let a = p rest' h in (a.0, a.1, n, a.2, a.3, a.4, a.5)

-- a call that gives up where another one came to
pub runs_give_up : (modes : Modes) (c : Code) (n : ℕ) (old new : Moment) → Runs modes c n old new Paused → Runs modes c (n + 1) old new NoMemory
runs_give_up modes c n old new p = λ rest' h.
    let a = p rest' h in
    let from = stood_for old.core old.control a.0 in
    let there = stood_for new.core new.control rest' in
    (a.0, a.1, ran_gives_up modes c n from there there old.outside new.outside a.2, reads_longer modes c n (n + 1) from old.outside.held new.outside.held old.left new.left (omega arith) a.3, tt, tt)

-- ---- the input

pub takes_then : (left mid new : Option (List ℕ)) → TakesOff left mid → TakesOff mid new → TakesOff left new
takes_then None mid new h k = ([], tt)
takes_then (Some a) None new h k = absurd h.1
takes_then (Some a) (Some b) None h k = absurd k.1
takes_then (Some a) (Some b) (Some c) h k = (h.0 ++ k.0, h.1 ∙ ap (λ l. h.0 ++ l) k.1 ∙ sym (append_assoc h.0 k.0 c))

pub honest_then : (ended mid_ended new_ended : Bool) (left mid new : Option (List ℕ)) → TakesOff left mid → StaysHonest ended left mid_ended mid → StaysHonest mid_ended mid new_ended new → StaysHonest ended left new_ended new
honest_then ended mid_ended new_ended None mid new t h k = tt
honest_then ended mid_ended new_ended (Some a) None new t h k = absurd t.1
honest_then ended mid_ended new_ended (Some a) (Some b) new t h k = λ e f. k (λ g. h e g) f
