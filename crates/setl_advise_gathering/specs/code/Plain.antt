-- The conditions that gathered ones stand for.
use Rattle.std.specs.Prelude.{List, map}
use Rattle.setl_model_runs.specs.Variable as run
use Rattle.setl_program.specs.Program.{begin_of}
use Rattle.setl_program.specs.code.Plain.{plain_expr, plain_exprs, plain_binding, plain_place}
use Rattle.setl_advise_conditions.specs.Conditions as plain
use Rattle.setl_advise_gathering.specs.declared.condition.Name.{Name}
use Rattle.setl_advise_gathering.specs.declared.condition.Name.TheVariants as name
use Rattle.setl_advise_gathering.specs.declared.condition.Target.{Target}
use Rattle.setl_advise_gathering.specs.declared.condition.Target.TheVariants as target
use Rattle.setl_advise_gathering.specs.declared.condition.Term.{Term}
use Rattle.setl_advise_gathering.specs.declared.condition.Term.TheVariants as term
use Rattle.setl_advise_gathering.specs.declared.condition.Condition.{Condition}

abbrev pub plain_name : Name → run.Variable
plain_name (name.Global text) = run.Global text.now
plain_name (name.Own body text) = run.Own body text.now
plain_name (name.Former former text) = run.Bound former text.now

abbrev pub plain_target : Target → plain.Target
plain_target (target.Into x) = plain.Into (plain_name x)
plain_target (target.ResultOf f) = plain.ResultOf f

abbrev pub plain_term : Term → plain.Term
plain_term term.Anything = plain.Anything
plain_term term.Unset = plain.Unset
plain_term (term.Held x) = plain.Held (plain_name x)
plain_term (term.Value e) = plain.Value (plain_expr e.now)
plain_term (term.Component e) = plain.Component (plain_expr e.now)
plain_term (term.Member b es) = plain.Member (begin_of (plain_binding b.now)) (plain_exprs es.now)
plain_term (term.MemberComponent b es) = plain.MemberComponent (begin_of (plain_binding b.now)) (plain_exprs es.now)
plain_term (term.Argument b es) = plain.Argument (begin_of (plain_binding b.now)) (plain_exprs es.now)
plain_term (term.Image b es) = plain.Image (begin_of (plain_binding b.now)) (plain_exprs es.now)
plain_term (term.Assigned l e) = plain.Assigned (plain_place l.now) (plain_expr e.now)
plain_term (term.Updated o l e) = plain.Updated o (plain_place l.now) (plain_expr e.now)
plain_term (term.Taken l) = plain.Taken (plain_place l.now)
plain_term (term.Remaining l) = plain.Remaining (plain_place l.now)

abbrev pub plain_condition : Condition → plain.Condition
plain_condition c = record { target = plain_target c.target; term = plain_term c.term }

abbrev pub listed : List Condition → List plain.Condition
listed cs = map plain_condition cs
