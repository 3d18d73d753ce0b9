-- Worked programs with flows that meet their conditions, and the modes that are advised for these.
use Rattle.std.specs.Prelude.{◌≡◌, refl, List, [], ◌∷◌, cond, codes, Some, None}
use Rattle.setl_model_runs.specs.Variable.{Variable, is_variable}
use Rattle.setl_operators_table.specs.declared.Operator.TheVariants.{NotEqual, NotIn}
use Rattle.setl_modes.specs.declared.mode.Form.TheVariants as form
use Rattle.setl_modes.specs.Modes.{Integers, Strings, Booleans, Atoms, Elements, Sets, Tuples, MultiMaps}
use Rattle.setl_program.specs.declared.kinds.Taking.TheVariants.{TakeFirst}
use Rattle.setl_program.specs.Program.{Name, no_selector, no_condition, Read, TakeFrom, While, If, For, Program}
use Rattle.setl_program.specs.Source.{own, g, s, t, x, y, number, quoted, set_of, pair_of, row_of, two, at_brace, over, assign, add_to, print, block, program}
use Rattle.setl_advise_flows.specs.Flow.{Whole, Letters, Truth, Token, Flow, Nothing, Scalar, Set, Tuple, Map, Any, join}
use Rattle.setl_advise_flows.specs.Expressions.{Flows}
use Rattle.setl_advise_flows.specs.Advice.{Bases, advised}

-- the flow of a variable by a list; the others have none
abbrev pub flow_in : List (Variable × Flow) → Variable → Flow
flow_in [] x = Nothing
flow_in (e ∷ es) x = cond (is_variable e.0 x) e.1 (flow_in es x)

abbrev pub flows_by : List (Variable × Flow) → Flows
flows_by es = record { of = flow_in es; result = λ f. Nothing }

-- ---- g := {[1,2],[2,3],[4,1]}; seen := {}; todo := [1];
-- (while todo /= []) x fromb todo; if x notin seen then seen with:= x; (for y in g{x}) todo with:= y; end; end; end; print(seen);

abbrev pub seen : Variable
seen = own (codes "seen")

abbrev pub todo : Variable
todo = own (codes "todo")

abbrev pub reached : Program
reached = program
    (assign g (set_of (pair_of 1 2 ∷ pair_of 2 3 ∷ pair_of 4 1 ∷ []))
    ∷ assign seen (set_of [])
    ∷ assign todo (row_of (1 ∷ []))
    ∷ While (two NotEqual (Name todo) (row_of [])) (block
    (TakeFrom TakeFirst x (record { variable = todo; selectors = no_selector })
    ∷ If (two NotIn (Name x) (Name seen))
    (block (add_to seen (Name x) ∷ For (over y (at_brace (Name g) (Name x))) no_condition (block (add_to todo (Name y) ∷ [])) ∷ []))
    (block [])
    ∷ []))
    ∷ print (Name seen ∷ [])
    ∷ [])

abbrev pub reached_flows : Flows
reached_flows = flows_by ((g, Map (Scalar Whole) (Scalar Whole)) ∷ (seen, Set (Scalar Whole)) ∷ (todo, Tuple (Scalar Whole)) ∷ (x, Scalar Whole) ∷ (y, Scalar Whole) ∷ [])

-- ---- read(x); s := {1}; s with:= x; t := {'a'}; print(s);

abbrev pub mixed : Program
mixed = program
    (Read (x ∷ [])
    ∷ assign s (set_of (number 1 ∷ []))
    ∷ add_to s (Name x)
    ∷ assign t (set_of (quoted (codes "a") ∷ []))
    ∷ print (Name s ∷ [])
    ∷ [])

abbrev pub mixed_flows : Flows
mixed_flows = flows_by ((x, Any) ∷ (s, Set Any) ∷ (t, Set (Scalar Letters)) ∷ [])

-- ---- joins

-- the empty set with a map is the map, and another set with one the set of both members
empty_with_map : join (Set Nothing) (Map (Scalar Whole) (Scalar Letters)) ≡ Map (Scalar Whole) (Scalar Letters)
empty_with_map = refl

set_with_map : join (Set (Scalar Whole)) (Map (Scalar Whole) (Scalar Whole)) ≡ Set Any
set_with_map = refl

pairs_with_map : join (Map (Scalar Whole) (Scalar Letters)) (Set (Tuple (Scalar Whole))) ≡ Set (Tuple Any)
pairs_with_map = refl

-- scalars of two kinds, and a set with a tuple
two_kinds : join (Scalar Whole) (Scalar Letters) ≡ Any
two_kinds = refl

set_with_tuple : join (Set (Scalar Whole)) (Tuple (Scalar Whole)) ≡ Any
set_with_tuple = refl

-- a constructor inside three others is all values
deep : join (Set (Set (Set (Set (Scalar Whole))))) Nothing ≡ Set (Set (Set Any))
deep = refl

-- ---- advised modes, where the bases of the integers, the strings and the atoms are 0, 1 and 2

abbrev pub in_order : Bases
in_order Whole = 0
in_order Letters = 1
in_order Truth = 0
in_order Token = 2

undeclared : advised in_order Nothing ≡ None
undeclared = refl

all_values : advised in_order Any ≡ None
all_values = refl

integers : advised in_order (Scalar Whole) ≡ Some Integers
integers = refl

set_of_strings : advised in_order (Set (Scalar Letters)) ≡ Some (Sets form.Remote (Elements 1 Strings))
set_of_strings = refl

tuple_of_atoms : advised in_order (Tuple (Scalar Token)) ≡ Some (Tuples (Elements 2 Atoms))
tuple_of_atoms = refl

set_of_booleans : advised in_order (Set (Scalar Truth)) ≡ Some (Sets form.Plain Booleans)
set_of_booleans = refl

map_of_scalars : advised in_order (Map (Scalar Whole) (Scalar Letters)) ≡ Some (MultiMaps form.Sparse (Elements 0 Integers) (Sets form.Sparse (Elements 1 Strings)))
map_of_scalars = refl

map_to_sets : advised in_order (Map (Scalar Whole) (Set (Scalar Whole))) ≡ Some (MultiMaps form.Sparse (Elements 0 Integers) (Sets form.Plain (Sets form.Plain Integers)))
map_to_sets = refl

sets_of_tuples : advised in_order (Set (Tuple (Scalar Whole))) ≡ Some (Sets form.Plain (Tuples Integers))
sets_of_tuples = refl
