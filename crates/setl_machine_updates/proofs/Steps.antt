-- One outcome after another.
use Rattle.std.proofs.Common.{sym, subst, ℕ, ◌-◌, Option, arith}
use Rattle.std.specs.Prelude.{Result, Ok, Err}
use Rattle.setl_value.specs.Datum.{Datum}
use Rattle.setl_operators_table.specs.declared.OpFault.{OpFault}
use Rattle.setl_operators_table.specs.declared.OpFault.TheVariants.{Kind, Om, Wide, Zero, Range, Deep, Spent, NoMemory}
use Rattle.setl_operators_table.specs.Outcome.{Outcome, Gives, Fails, Overspends, adding, then_with}
use Rattle.setl_operators_table.specs.code.Answers.{Tells}
use Rattle.setl_machine_updates.specs.Updates.{Leaves, Updates}
use Rattle.setl_machine_updates.specs.declared.selectors.Part.{Part}
use Rattle.setl_machine_updates.specs.Parts.{Reads}
use Rattle.setl_value.specs.code.DatumOf.{part}

-- an outcome that gives nothing tells no other fault with a charge before it
charged_fault : (o : Outcome) (n : ℕ) (e : OpFault) → Tells (Err e) o → Tells (Err e) (adding n o)
charged_fault (Gives v m) n NoMemory h = tt
charged_fault (Gives v m) n Kind h = absurd (cc)
charged_fault (Gives v m) n Om h = absurd (cc)
charged_fault (Gives v m) n Wide h = absurd (cc)
charged_fault (Gives v m) n Zero h = absurd (cc)
charged_fault (Gives v m) n Range h = absurd (cc)
charged_fault (Gives v m) n Deep h = absurd (cc)
charged_fault (Gives v m) n Spent h = absurd (cc)
charged_fault (Fails f) n e h = h
charged_fault Overspends n e h = h

charged_leaves : (o : Outcome) (n turns : ℕ) (new : Option Datum) (left : ℕ) → Leaves o (turns - n) new left → Leaves (adding n o) turns new left
charged_leaves (Gives v m) n turns new left h = (h.0, omega (arith, h.1))
charged_leaves (Fails f) n turns new left h = h
charged_leaves Overspends n turns new left h = h

-- ---- after what gives a value the next one's outcome is told

module _ (next : Option Datum → ℕ → Outcome) (turns : ℕ) (v : Option Datum) (left : ℕ) where
  goes_leaves : (o : Outcome) (new : Option Datum) (later : ℕ) → Leaves o turns v left → Leaves (next v left) left new later → Leaves (then_with o turns next) turns new later
  goes_leaves (Gives w n) new later h k =
      let same : Leaves (next w left) left new later = subst (λ u. Leaves (next u left) left new later) (sym h.0) k in
      charged_leaves (next w (turns - n)) n turns new later (subst (λ m. Leaves (next w m) m new later) h.1 same)
  goes_leaves (Fails f) new later h k = absurd h
  goes_leaves Overspends new later h k = absurd h

  goes_fault : (o : Outcome) (e : OpFault) → Leaves o turns v left → Tells (Err e) (next v left) → Tells (Err e) (then_with o turns next)
  goes_fault (Gives w n) e h k =
      let same : Tells (Err e) (next w left) = subst (λ u. Tells (Err e) (next u left)) (sym h.0) k in
      charged_fault (next w (turns - n)) n e (subst (λ m. Tells (Err e) (next w m)) h.1 same)
  goes_fault (Fails f) e h k = absurd h
  goes_fault Overspends e h k = absurd h

  pub goes_on : (o : Outcome) (new : Option Datum) (r : Result ℕ OpFault) → Leaves o turns v left → Updates (next v left) left new r → Updates (then_with o turns next) turns new r
  goes_on o new (Ok later) h k = goes_leaves o new later h k
  goes_on o new (Err e) h k = goes_fault o e h k

  pub reads_on : (o : Outcome) (r : Result Part OpFault) → Leaves o turns v left → Reads (next v left) left r → Reads (then_with o turns next) turns r
  reads_on o (Ok p) h k = goes_leaves o (part p.value) p.left h k
  reads_on o (Err e) h k = goes_fault o e h k

-- a fault ends the whole
pub stops : (o : Outcome) (turns : ℕ) (next : Option Datum → ℕ → Outcome) (e : OpFault) → Tells (Err e) o → Tells (Err e) (then_with o turns next)
stops (Gives v m) turns next NoMemory h = tt
stops (Gives v m) turns next Kind h = absurd (cc)
stops (Gives v m) turns next Om h = absurd (cc)
stops (Gives v m) turns next Wide h = absurd (cc)
stops (Gives v m) turns next Zero h = absurd (cc)
stops (Gives v m) turns next Range h = absurd (cc)
stops (Gives v m) turns next Deep h = absurd (cc)
stops (Gives v m) turns next Spent h = absurd (cc)
stops (Fails f) turns next e h = h
stops Overspends turns next e h = h
