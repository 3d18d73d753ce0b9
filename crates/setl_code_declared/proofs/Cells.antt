-- Cells that fit.
use Rattle.std.specs.Prelude.{◌≡◌, ℕ, Bool, true, false, List, [], ◌∷◌, cond, slice_get, map, Option, Some, None, refl}
use Rattle.std.proofs.Common.{ap, sym, ◌∙◌, subst}
use Rattle.setl_value.specs.Datum.{Datum}
use Rattle.setl_modes.specs.Modes.{Mode}
use Rattle.setl_modes.specs.Fits.{is_taken}
use Rattle.setl_model_runs.specs.Variable.{Variable, Global, Own, Bound, is_variable}
use Rattle.setl_model_runs.specs.VariableLaws.{same_variable}
use Rattle.setl_model.specs.Step.{declared_mode}
use Rattle.setl_code.specs.Code.{Body, Code}
use Rattle.setl_code.specs.CodeCore.{Held, There, Gone, Cells, held_in, with_held, cleared, variables_of, CodeCore, held, write}
use Rattle.setl_code.specs.CodeMeans.{main_slots}
use Rattle.setl_code_declared.specs.Fitting.{Modes, IsFitting, CellsFit, Fitting}
use Rattle.setl_code_declared.specs.Laws.{StartsFit, HeldFits}

-- `om` is taken by each declaration
om_fits : (m : Option Mode) → IsFitting m (There None)
om_fits None = refl
om_fits (Some m) = refl

pub cleared_fit : (modes : Modes) (xs : List Variable) → CellsFit modes (cleared xs)
cleared_fit modes [] = tt
cleared_fit modes (x ∷ xs) = (om_fits (declared_mode modes x), cleared_fit modes xs)

main_fit : (modes : Modes) (b : Option Body) → CellsFit modes (main_slots b)
main_fit modes None = tt
main_fit modes (Some b) = cleared_fit modes (variables_of 0 b)

pub starts_fit : StartsFit
starts_fit modes c w = (cleared_fit modes c.vars, main_fit modes (slice_get c.bodies 0), tt, tt)

pub with_held_fit : (modes : Modes) (cells : Cells) (x : Variable) (h : Held) → CellsFit modes cells → IsFitting (declared_mode modes x) h → CellsFit modes (with_held cells x h)
with_held_fit modes [] x h f g = (g, tt)
with_held_fit modes (c ∷ cs) x h f g = go (is_variable c.0 x) (with_held_fit modes cs x h f.1 g)
  where
    go : (b : Bool) → CellsFit modes (with_held cs x h) → CellsFit modes (cond b ((x, h) ∷ cs) (c ∷ with_held cs x h))
    go true r = (g, f.1)
    go false r = (f.0, r)

pub write_fits : (modes : Modes) (x : Variable) (h : Held) (k : CodeCore) → Fitting modes k → IsFitting (declared_mode modes x) h → Fitting modes (write x h k)
write_fits modes (Global name) h k f g = (with_held_fit modes k.globals (Global name) h f.0 g, f.1, f.2, f.3)
write_fits modes (Own body name) h k f g = (f.0, with_held_fit modes k.now.own (Own body name) h f.1 g, f.2, f.3)
write_fits modes (Bound former name) h k f g = (f.0, with_held_fit modes k.now.own (Bound former name) h f.1 g, f.2, f.3)

held_in_fits : (modes : Modes) (cells : Cells) (x : Variable) → CellsFit modes cells → IsFitting (declared_mode modes x) (held_in cells x)
held_in_fits modes [] x f = om_fits (declared_mode modes x)
held_in_fits modes (c ∷ cs) x f = go (is_variable c.0 x) refl (held_in_fits modes cs x f.1)
  where
    go : (b : Bool) → is_variable c.0 x ≡ b → IsFitting (declared_mode modes x) (held_in cs x) → IsFitting (declared_mode modes x) (cond b c.1 (held_in cs x))
    go true e r = subst (λ y. IsFitting (declared_mode modes y) c.1) (same_variable c.0 x e) f.0
    go false e r = r

any_held : (modes : Modes) (k : CodeCore) (x : Variable) → Fitting modes k → IsFitting (declared_mode modes x) (held x k)
any_held modes k (Global name) f = held_in_fits modes k.globals (Global name) f.0
any_held modes k (Own body name) f = held_in_fits modes k.now.own (Own body name) f.1
any_held modes k (Bound former name) f = held_in_fits modes k.now.own (Bound former name) f.1

pub held_fits : HeldFits
held_fits modes k x v f e = subst (IsFitting (declared_mode modes x)) e (any_held modes k x f)
