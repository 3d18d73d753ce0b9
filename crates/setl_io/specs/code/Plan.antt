-- Which calls of an object in memory are to fail.
use Rattle.std.specs.Prelude.{ℕ, ◌==◌, List, Bool, if◌then◌else◌, refl}
use Rattle.std.specs.List.{list_any}
use Rattle.std.specs.Coded.{Coded, code_by, coded×, coded_list, coded_ℕ}
use Rattle.setl_io.specs.Faults.{one_more}

-- the numbers of the calls that are to fail, counted from 1, and how many calls and faults there were, each up to 2^64 - 1
pub record Plan : Type 0 where
  pub failing : List ℕ
  pub calls : ℕ
  pub faults : ℕ

-- a plan is stored as its parts
abbrev pub plan_code : Coded Plan
plan_code = code_by (List ℕ × (ℕ × ℕ)) (coded× (coded_list coded_ℕ) (coded× coded_ℕ coded_ℕ)) (λ p. (p.failing, (p.calls, p.faults))) (λ q. record { failing = q.0; calls = q.1.0; faults = q.1.1 }) (λ _. refl)

-- before the first call
abbrev pub new_plan : List ℕ → Plan
new_plan failing = record { failing = failing; calls = 0; faults = 0 }

-- the next call is among those that are to fail
abbrev pub is_to_fail : Plan → Bool
is_to_fail plan = list_any (λ call. call == one_more plan.calls) plan.failing

-- after a call, which was a fault or wasn't
abbrev pub after_call : Plan → Bool → Plan
after_call plan failed = record { failing = plan.failing; calls = one_more plan.calls; faults = if failed then one_more plan.faults else plan.faults }
