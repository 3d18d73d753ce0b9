-- The name that the line of a stop tells.
use Rattle.std.proofs.Common.{◌≡◌, ◌∙◌, ℕ, zero, suc, List, [], ◌∷◌, ◌++◌, map, None, Some, refl, ap, subst, sym, codes}
use Rattle.std.specs.Prelude.{slice_get}
use Rattle.setl_model_runs.specs.Variable.{Bound, name_of}
use Rattle.setl_top_status.specs.Ends.{stop_text}
use Rattle.setl_program.specs.declared.program.Declared.{Declared}
use Rattle.setl_program.specs.code.Plain.{plain_variable, plain_declared}
use Rattle.setl_machine_control.specs.Declaring.{declared_at}
use Rattle.setl_machine_control.specs.Answers.{kind_of}
use Rattle.setl_machine_control.specs.declared.end.StopKind.{StopKind}
use Rattle.setl_machine_control.specs.declared.end.StopKind.TheVariants as kind

at_place : (ds : List Declared) (k : ℕ) (d : Declared) → slice_get ds k ≡ Some d → declared_at (map plain_declared ds) k ≡ plain_variable d.variable
at_place [] k d h = absurd (cc)
at_place (x ∷ xs) zero d h = let same : x ≡ d = cc in ap (λ (y : Declared). plain_variable y.variable) same
at_place (x ∷ xs) (suc k) d h = at_place xs k d h

behind : (ds : List Declared) (k : ℕ) → slice_get ds k ≡ None → declared_at (map plain_declared ds) k ≡ Bound 0 []
behind [] k h = refl
behind (x ∷ xs) zero h = absurd (cc)
behind (x ∷ xs) (suc k) h = behind xs k h

named : (ds : List Declared) (k : ℕ) (why : StopKind) (name : List ℕ) → why ≡ kind.Unfit k → name_of (declared_at (map plain_declared ds) k) ≡ name → stop_text (kind_of [] why) ++ name ≡ stop_text (kind_of (map plain_declared ds) why)
named ds k why name is h =
    subst (λ w. stop_text (kind_of [] w) ++ name ≡ stop_text (kind_of (map plain_declared ds) w)) (sym is)
    (ap (λ n. codes "value does not fit " ++ n) (sym h))

pub name_told : (ds : List Declared) (k : ℕ) (why : StopKind) (d : Declared) (name : List ℕ) → why ≡ kind.Unfit k → slice_get ds k ≡ Some d → name ≡ name_of (plain_variable d.variable) → stop_text (kind_of [] why) ++ name ≡ stop_text (kind_of (map plain_declared ds) why)
name_told ds k why d name is h e = named ds k why name is (ap name_of (at_place ds k d h) ∙ sym e)

pub none_told : (ds : List Declared) (k : ℕ) (why : StopKind) → why ≡ kind.Unfit k → slice_get ds k ≡ None → stop_text (kind_of [] why) ++ [] ≡ stop_text (kind_of (map plain_declared ds) why)
none_told ds k why is h = named ds k why [] is (ap name_of (behind ds k h))
