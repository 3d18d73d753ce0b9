-- What a table serves goes on being served.
use Rattle.std.proofs.Common.{◌≡◌, ◌∙◌, ℕ, List, [], ◌∷◌, Option, None, Some, refl, sym, subst}
use Rattle.setl_model_runs.specs.Run.{run}
use Rattle.setl_model_runs.specs.Variable.{Global, Own, Bound}
use Rattle.setl_code.specs.Code.{Code}
use Rattle.setl_code.specs.CodeCore.{CodeCore}
use Rattle.setl_code.specs.Machine.{machine}
use Rattle.setl_code.specs.Plain.{plain_code}
use Rattle.setl_code_declared.specs.Fitting.{Fitting, NoFormers}
use Rattle.setl_code_declared.specs.Laws.{RunsFit}
use Rattle.setl_store.specs.Standing.{Standing}
use Rattle.setl_text.specs.code.Reads.{ahead}
use Rattle.setl_watch.specs.Watches.{Watched}
use Rattle.setl_machine_control.specs.Answers.{start}
use Rattle.setl_machine_control.specs.Control.{ControlState, stood_for, IsRest}
use Rattle.setl_machine_control.specs.Declaring.{Modes, DeclarationTable, modes_of, tested, AreOfMain, IsBare, Serves}
use Rattle.setl_machine_control.specs.declared.end.End.{End}
use Rattle.setl_machine_control.specs.declared.end.End.TheVariants.{Paused}
use Rattle.setl_machine.specs.Outcome.{Seen, Ran, RanQuietly}
use Rattle.setl_machine.proofs.Hearing.{Heard}
use Rattle.setl_machine.proofs.RanLaws.{Came, came}
use Rattle.setl_machine.proofs.Rounds.{Moment, Runs}

no_formers : (modes : Modes) → AreOfMain modes → NoFormers modes
no_formers [] h former name = refl
no_formers ((Global a, m) ∷ ms) h former name = no_formers ms h.1 former name
no_formers ((Own body a, m) ∷ ms) h former name = no_formers ms h.1 former name
no_formers ((Bound former' a, m) ∷ ms) h former name = absurd h.0

-- a run that goes on keeps that what declared variables hold fits
ran_fits : RunsFit → (modes : Modes) (c : Code) (n : ℕ) (from to : CodeCore) (old new : Seen) → AreOfMain modes → Fitting modes from → Ran modes c n from old new to Paused → Fitting modes to
ran_fits fit modes c n from to old new main f p =
    let w : Came (run (machine c) (tested modes) n (start from)) old new to = came modes (run (machine c) (tested modes) n (start from)) old new to p in
    subst (Fitting modes) w.core (fit modes c n (start from) w.state (no_formers modes main) f w.goes)

-- the same code, in which what declared variables hold fits
still : (d : DeclarationTable) (old new : Standing) → Serves d old → new.code ≡ old.code → Fitting (modes_of d) new.core → Serves d new
still d old new h code f = record { same = h.same ∙ sym code; bare = subst (λ c. IsBare (plain_code c)) (sym code) h.bare; main = h.main; fitting = f }

-- some bytes may be to come
some_rest : (left : Option (List ℕ)) → (rest : List ℕ) × IsRest left rest
some_rest None = ([], tt)
some_rest (Some left) = (left, refl)

-- behind a call that paused
pub serves_then : RunsFit → (d : DeclarationTable) (old new : Standing) (n : ℕ) (a b : Moment) → Serves d old → new.code ≡ old.code → Runs (modes_of d) (plain_code old.code) n (record a { core = old.core }) (record b { core = new.core }) Paused → Serves d new
serves_then fit d old new n a b h code p =
    let r = some_rest (ahead b.control.reader.ended b.left) in
    let q = p r.0 r.1 in
    still d old new h code (ran_fits fit (modes_of d) (plain_code old.code) n (stood_for old.core a.control q.0) (stood_for new.core b.control r.0) a.outside b.outside h.main h.fitting q.2)

-- behind one that neither reads nor writes
pub serves_quietly : RunsFit → (d : DeclarationTable) (old new : Standing) (n : ℕ) (from to : ControlState) (e : End) → Serves d old → new.code ≡ old.code → e ≡ Paused → RanQuietly (modes_of d) (plain_code old.code) n old.core from new.core to e → Serves d new
serves_quietly fit d old new n from to e h code paused p =
    let now : Seen = record { held = None; faults = 0; input_faults = 0 } in
    let q : RanQuietly (modes_of d) (plain_code old.code) n old.core from new.core to Paused = subst (λ e. RanQuietly (modes_of d) (plain_code old.code) n old.core from new.core to e) paused p in
    still d old new h code (ran_fits fit (modes_of d) (plain_code old.code) n (stood_for old.core from []) (stood_for new.core to []) now now h.main h.fitting (q now []))

-- behind one that watchers heard
pub serves_heard : RunsFit → (d : DeclarationTable) (old new : Standing) (n : ℕ) (a b : Moment) (h h' : Watched) → Serves d old → new.code ≡ old.code → Heard (modes_of d) (plain_code old.code) n (record a { core = old.core }) (record b { core = new.core }) h h' Paused → Serves d new
serves_heard fit d old new n a b h h' s code p =
    let r = some_rest (ahead b.control.reader.ended b.left) in
    let q = p r.0 r.1 in
    still d old new s code (ran_fits fit (modes_of d) (plain_code old.code) n (stood_for old.core a.control q.0) (stood_for new.core b.control r.0) a.outside b.outside s.main s.fitting (q.2).0)
