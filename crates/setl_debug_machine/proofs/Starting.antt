-- Where a run starts.
use Rattle.std.proofs.Common.{◌≡◌, ◌∙◌, sym, ap, subst, ℕ, false, List, [], None}
use Rattle.setl_code.specs.declared.code.Code.{Code}
use Rattle.setl_code.specs.CodeMeans.{code_first}
use Rattle.setl_code.specs.Plain.{plain_code}
use Rattle.setl_code_declared.specs.Fitting.{Fitting}
use Rattle.setl_code_declared.specs.Laws.{StartsFit}
use Rattle.setl_store.specs.Standing.{Standing, no_world, started}
use Rattle.setl_machine_control.specs.Control.{ControlState, stood_for}
use Rattle.setl_machine_control.specs.Declaring.{DeclarationTable, modes_of, AreOfMain, IsBare}
use Rattle.setl_debug_machine.specs.code.Machines.{to_come, StandsAt}
use Rattle.setl_debug_machine.specs.declared.machine.Machine.{Machine}

-- a control with so many turns that read nothing yet
abbrev pub fresh : ℕ → ControlState
fresh turns = record { turns = turns; atom = 1; eof = false; reader = record { kept = []; ended = false; fault = None } }

pub stands_first : StartsFit → (d : DeclarationTable) (code : Code) (input : List ℕ) (turns : ℕ) (m : Machine) → d.code ≡ code → IsBare (plain_code code) → AreOfMain (modes_of d) →
    m.store ≡ started 0 code → m.control ≡ fresh turns → m.input ≡ input → m.output ≡ [] → StandsAt d (code_first (plain_code d.code) input turns) m
stands_first fit d code input turns m same bare main store control left held = record {
  serves = record {
    same = same ∙ sym (ap (λ (s : Standing). s.code) store);
    bare = subst (λ (s : Standing). IsBare (plain_code s.code)) (sym store) bare;
    main = main;
    fitting = subst (λ (s : Standing). Fitting (modes_of d) s.core) (sym store) (fit (modes_of d) (plain_code code) no_world);
  };
  no_fault = ap (λ (k : ControlState). k.reader.fault) control;
  core =
      ap (λ (c : Code). (code_first (plain_code c) input turns).core) same
      ∙ ap (λ (s : Standing). stood_for s.core (fresh turns) input) (sym store)
      ∙ ap (λ (k : ControlState). stood_for m.store.core k (to_come k.reader.ended input)) (sym control)
      ∙ ap (λ i. stood_for m.store.core m.control (to_come m.control.reader.ended i)) (sym left);
  out = sym held;
}
