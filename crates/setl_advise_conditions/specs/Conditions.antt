-- Conditions on flows, one by one: what is stored, by the flows of variables, and where.
use Rattle.std.specs.Prelude.{ℕ, List, [], ◌∷◌}
use Rattle.std.specs.List.{AllByRecursion}
use Rattle.setl_model_runs.specs.Variable.{Variable}
use Rattle.setl_operators_table.specs.declared.Operator.{Operator}
use Rattle.setl_program.specs.Program.{Begin, Expr, Exprs, Place}
use Rattle.setl_advise_flows.specs.Flow.{Flow, Nothing, Any, Below}
use Rattle.setl_advise_flows.specs.Operators.{el, part, get_flow, flow_of, flows, op_shape, Plain}
use Rattle.setl_advise_flows.specs.Expressions.{Flows, shapes_of, shape_of, flow_at, source_flow, argument_flow, ats_of, part_flow, whole_flow}

-- What is stored somewhere.
pub data Term : Type 0 where
  -- any value, as `read` stores it
  Anything : Term
  -- `om`, as a parameter holds it that a procedure sets
  Unset : Term
  -- what a variable holds
  Held : Variable → Term
  -- the value of an expression, and a component of it
  Value Component : Expr → Term
  -- a member of what an iterator runs over, and a component of a member
  Member MemberComponent : Begin → Exprs → Term
  -- an argument of a map that an iterator runs over, and an image
  Argument Image : Begin → Exprs → Term
  -- what a variable holds after `p := e`, and after `p op:= e`, where its place is p
  Assigned : Place → Expr → Term
  Updated : Operator → Place → Expr → Term
  -- what is taken from a place, and what the place's variable holds then
  Taken Remaining : Place → Term

-- Where it is stored: in a variable, or in the result of a procedure.
pub data Target : Type 0 where
  Into : Variable → Target
  ResultOf : (procedure : ℕ) → Target

-- A term is stored in a target.
pub record Condition : Type 0 where
  pub target : Target
  pub term : Term

-- the flow of a place's part
abbrev pub place_flow : Flows → Place → Flow
place_flow s l = part_flow (ats_of s l.selectors) (s.of l.variable)

-- the flow of a place's variable once the part has this flow
abbrev pub after_flow : Flows → Place → Flow → Flow
after_flow s l f = whole_flow (ats_of s l.selectors) (s.of l.variable) f

abbrev pub term_flow : Flows → Term → Flow
term_flow s Anything = Any
term_flow s Unset = Nothing
term_flow s (Held x) = s.of x
term_flow s (Value e) = flow_at s e
term_flow s (Component e) = part (flow_at s e)
term_flow s (Member b es) = el (source_flow b (flows (shapes_of s es)))
term_flow s (MemberComponent b es) = part (el (source_flow b (flows (shapes_of s es))))
term_flow s (Argument b es) = argument_flow (source_flow b (flows (shapes_of s es)))
term_flow s (Image b es) = get_flow (source_flow b (flows (shapes_of s es)))
term_flow s (Assigned l e) = after_flow s l (flow_at s e)
term_flow s (Updated o l e) = after_flow s l (flow_of (op_shape o (Plain (place_flow s l) ∷ shape_of s e ∷ [])))
term_flow s (Taken l) = el (place_flow s l)
term_flow s (Remaining l) = after_flow s l (place_flow s l)

abbrev pub target_flow : Flows → Target → Flow
target_flow s (Into x) = s.of x
target_flow s (ResultOf f) = s.result f

-- what is stored is in the flow of where it is stored
abbrev pub Meets : Flows → Condition → Type 0
Meets s c = Below (term_flow s c.term) (target_flow s c.target)

abbrev pub MeetsAll : Flows → List Condition → Type 0
MeetsAll s cs = AllByRecursion (Meets s) cs
