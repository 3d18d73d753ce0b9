-- What the family of an instruction says of its events.
use Rattle.std.proofs.Common.{◌≡◌, ◌∙◌, ℕ, List, [], map, refl, sym, ap}
use Rattle.std.specs.Prelude.{slice_get}
use Rattle.setl_watch.specs.Notices.{noticed}
use Rattle.setl_watch.specs.code.NoticeOf.{notice_of}
use Rattle.setl_watch.specs.declared.event.Event.{Event}
use Rattle.setl_code.specs.declared.code.Instr.{Instr}
use Rattle.setl_code.specs.declared.code.Instr.TheVariants as i
use Rattle.setl_code.specs.Code.{Code}
use Rattle.setl_code.specs.CodeCore.{CodeCore}
use Rattle.setl_code.specs.Plain.{Variables as Names, plain_instr}
use Rattle.setl_code_events.specs.Told.{return_told}
use Rattle.setl_machine.specs.Families.{family_of, IsToldAlone}
use Rattle.setl_machine.specs.Hearing.{Tells}
use Rattle.setl_machine.specs.declared.families.Family.TheVariants.{Variables, Calls, Backtracking, Outside}

-- but for variables, calls and what is written, events rest neither on operands nor on slots
pub told_alone : (what : Instr) → (family_of what ≡ Variables → ⊥) → (family_of what ≡ Calls → ⊥) → (family_of what ≡ Outside → ⊥) → IsToldAlone what
told_alone (i.Integer n) v k o = tt
told_alone (i.Text s) v k o = tt
told_alone (i.Truth s) v k o = tt
told_alone i.Undefined v k o = tt
told_alone (i.Load x) v k o = tt
told_alone (i.Take x) v k o = tt
told_alone (i.Store x) v k o = v refl
told_alone (i.Alter a x bs) v k o = v refl
told_alone (i.Operate p n) v k o = tt
told_alone i.NewAtom v k o = tt
told_alone i.Eof v k o = tt
told_alone (i.Decide p to) v k o = tt
told_alone i.TestTruth v k o = tt
told_alone (i.Unless to) v k o = tt
told_alone (i.Jump to) v k o = tt
told_alone i.Discard v k o = tt
told_alone i.Duplicate v k o = tt
told_alone i.Stop v k o = tt
told_alone (i.Parts n) v k o = tt
told_alone (i.Begin how n) v k o = tt
told_alone (i.Next to) v k o = tt
told_alone (i.Collect p) v k o = tt
told_alone (i.Add n) v k o = tt
told_alone (i.Leave n) v k o = tt
told_alone i.Round v k o = tt
told_alone (i.Call n) v k o = k refl
told_alone i.Return v k o = tt
told_alone i.Keep v k o = tt
told_alone i.Back v k o = tt
told_alone i.Forget v k o = tt
told_alone (i.Print n) v k o = o refl
told_alone i.Read v k o = tt

-- of calls and returns it is a return
pub tells_return : (what : Instr) (c : Code) (n line : ℕ) (xs : Names) (k d : CodeCore) (events : List Event) → family_of what ≡ Calls → IsToldAlone what → k.now.body ≡ n → map notice_of events ≡ map noticed (return_told (slice_get c.bodies n)) → Tells c line (plain_instr xs what) k d events
tells_return (i.Integer m) c n line xs k d events e t b h = absurd (cc)
tells_return (i.Text s) c n line xs k d events e t b h = absurd (cc)
tells_return (i.Truth s) c n line xs k d events e t b h = absurd (cc)
tells_return i.Undefined c n line xs k d events e t b h = absurd (cc)
tells_return (i.Load x) c n line xs k d events e t b h = absurd (cc)
tells_return (i.Take x) c n line xs k d events e t b h = absurd (cc)
tells_return (i.Store x) c n line xs k d events e t b h = absurd (cc)
tells_return (i.Alter a x bs) c n line xs k d events e t b h = absurd (cc)
tells_return (i.Operate p m) c n line xs k d events e t b h = absurd (cc)
tells_return i.NewAtom c n line xs k d events e t b h = absurd (cc)
tells_return i.Eof c n line xs k d events e t b h = absurd (cc)
tells_return (i.Decide p to) c n line xs k d events e t b h = absurd (cc)
tells_return i.TestTruth c n line xs k d events e t b h = absurd (cc)
tells_return (i.Unless to) c n line xs k d events e t b h = absurd (cc)
tells_return (i.Jump to) c n line xs k d events e t b h = absurd (cc)
tells_return i.Discard c n line xs k d events e t b h = absurd (cc)
tells_return i.Duplicate c n line xs k d events e t b h = absurd (cc)
tells_return i.Stop c n line xs k d events e t b h = absurd (cc)
tells_return (i.Parts m) c n line xs k d events e t b h = absurd (cc)
tells_return (i.Begin how m) c n line xs k d events e t b h = absurd (cc)
tells_return (i.Next to) c n line xs k d events e t b h = absurd (cc)
tells_return (i.Collect p) c n line xs k d events e t b h = absurd (cc)
tells_return (i.Add m) c n line xs k d events e t b h = absurd (cc)
tells_return (i.Leave m) c n line xs k d events e t b h = absurd (cc)
tells_return i.Round c n line xs k d events e t b h = absurd (cc)
tells_return (i.Call m) c n line xs k d events e t b h = absurd t
tells_return i.Return c n line xs k d events e t b h = h ∙ ap (λ j. map noticed (return_told (slice_get c.bodies j))) (sym b)
tells_return i.Keep c n line xs k d events e t b h = absurd (cc)
tells_return i.Back c n line xs k d events e t b h = absurd (cc)
tells_return i.Forget c n line xs k d events e t b h = absurd (cc)
tells_return (i.Print m) c n line xs k d events e t b h = absurd (cc)
tells_return i.Read c n line xs k d events e t b h = absurd (cc)

-- all others but `ok`, `fail` and `succeed` tell nothing
pub tells_nothing : (what : Instr) → (family_of what ≡ Calls → ⊥) → (family_of what ≡ Backtracking → ⊥) → IsToldAlone what → (c : Code) (line : ℕ) (xs : Names) (k d : CodeCore) → Tells c line (plain_instr xs what) k d []
tells_nothing (i.Integer n) j b t c line xs k d = refl
tells_nothing (i.Text s) j b t c line xs k d = refl
tells_nothing (i.Truth s) j b t c line xs k d = refl
tells_nothing i.Undefined j b t c line xs k d = refl
tells_nothing (i.Load x) j b t c line xs k d = refl
tells_nothing (i.Take x) j b t c line xs k d = refl
tells_nothing (i.Store x) j b t c line xs k d = absurd t
tells_nothing (i.Alter a x bs) j b t c line xs k d = absurd t
tells_nothing (i.Operate p n) j b t c line xs k d = refl
tells_nothing i.NewAtom j b t c line xs k d = refl
tells_nothing i.Eof j b t c line xs k d = refl
tells_nothing (i.Decide p to) j b t c line xs k d = refl
tells_nothing i.TestTruth j b t c line xs k d = refl
tells_nothing (i.Unless to) j b t c line xs k d = refl
tells_nothing (i.Jump to) j b t c line xs k d = refl
tells_nothing i.Discard j b t c line xs k d = refl
tells_nothing i.Duplicate j b t c line xs k d = refl
tells_nothing i.Stop j b t c line xs k d = refl
tells_nothing (i.Parts n) j b t c line xs k d = refl
tells_nothing (i.Begin how n) j b t c line xs k d = refl
tells_nothing (i.Next to) j b t c line xs k d = refl
tells_nothing (i.Collect p) j b t c line xs k d = refl
tells_nothing (i.Add n) j b t c line xs k d = refl
tells_nothing (i.Leave n) j b t c line xs k d = refl
tells_nothing i.Round j b t c line xs k d = refl
tells_nothing (i.Call n) j b t c line xs k d = absurd t
tells_nothing i.Return j b t c line xs k d = absurd (j refl)
tells_nothing i.Keep j b t c line xs k d = absurd (b refl)
tells_nothing i.Back j b t c line xs k d = absurd (b refl)
tells_nothing i.Forget j b t c line xs k d = absurd (b refl)
tells_nothing (i.Print n) j b t c line xs k d = absurd t
tells_nothing i.Read j b t c line xs k d = refl
