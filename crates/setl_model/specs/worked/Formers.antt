-- Worked rows of formers.
use Rattle.std.specs.Prelude.{List, [], ◌∷◌, ◌++◌, codes, Some}
use Rattle.setl_model_runs.specs.Variable.{Bound}
use Rattle.setl_operators_table.specs.declared.Operator.TheVariants.{Add, Subtract, Multiply, Equal, NotEqual, Below, Above, In, Size, Even}
use Rattle.setl_program.specs.declared.kinds.Collection.TheVariants.{OfSet, OfTuple}
use Rattle.setl_program.specs.declared.kinds.Connective.TheVariants.{Or}
use Rattle.setl_program.specs.declared.kinds.Source.TheVariants.{Values, Between, TupleSteps}
use Rattle.setl_program.specs.Program.{Member, Components, Point, Undefined, Name, Connect, Former, Selection, no_iterator, more_iterators, no_condition, only_if}
use Rattle.setl_model_runs.specs.Events.{Om, Kind, Zero, Deep, Stopped, Spent}
use Rattle.setl_program.specs.Source.{f, s, x, y, yes, number, quoted, exprs, one, two, minus, set_of, tuple_of, enumeration, row_of, from_to, over, between, assign, print, on_line, alone, just, deepest, nearly, select_over, select_between}
use Rattle.setl_model.specs.Table.{Row, writes, all_stop, does, ends}

-- formers collect values; the steps of their iterators take turns
abbrev pub former_rows : List Row
former_rows =
    -- print({x * x : x in {1, -1, 2}});
    does 3 (just (alone 2 (print (Former OfSet (two Multiply (Name (Bound 1 (codes "x"))) (Name (Bound 1
    (codes "x")))) (over (Bound 1 (codes "x")) (set_of (number 1 ∷ minus 1 ∷ number 2 ∷ []))) no_condition
    ∷ [])))) (codes "{1 4}\n")
    -- print({x * x : x in {1, -1, 2}});
    -- with 2 turns
    ∷ ends Spent 2 (just (alone 2 (print (Former OfSet (two Multiply (Name (Bound 1 (codes "x"))) (Name (Bound 1
    (codes "x")))) (over (Bound 1 (codes "x")) (set_of (number 1 ∷ minus 1 ∷ number 2 ∷ []))) no_condition
    ∷ [])))) []
    -- print([x : x in [1, om, 2]], [om : x in [1, 2]], [x : x in 'ab'], [x : x in {}], {x : x in [3, 3..3]});
    ∷ ends (Stopped Zero 2) 10 (just (alone 2 (print (Former OfTuple (Name (Bound 1 (codes "x"))) (over (Bound 1
    (codes "x")) (tuple_of (number 1 ∷ Undefined ∷ number 2 ∷ []))) no_condition ∷ Former OfTuple Undefined (over
    (Bound 2 (codes "x")) (row_of (1 ∷ 2 ∷ []))) no_condition ∷ Former OfTuple (Name (Bound 3 (codes "x"))) (over
    (Bound 3 (codes "x")) (quoted (codes "ab"))) no_condition ∷ Former OfTuple (Name (Bound 4 (codes "x"))) (over
    (Bound 4 (codes "x")) (set_of [])) no_condition ∷ Former OfSet (Name (Bound 5 (codes "x"))) (more_iterators (Member TupleSteps (Bound 5 (codes "x"))) (exprs (number 3 ∷ number 3 ∷ number 3
    ∷ [])) no_iterator) no_condition ∷ [])))) []
    -- print([x : x in [1, om, 2]], [om : x in [1, 2]], [x : x in 'ab'], [x : x in {}], {x : x in [3, 2..3]});
    ∷ does 8 (just (alone 2 (print (Former OfTuple (Name (Bound 1 (codes "x"))) (over (Bound 1 (codes "x")) (tuple_of
    (number 1 ∷ Undefined ∷ number 2 ∷ []))) no_condition ∷ Former OfTuple Undefined (over (Bound 2 (codes "x"))
    (row_of (1 ∷ 2 ∷ []))) no_condition ∷ Former OfTuple (Name (Bound 3 (codes "x"))) (over (Bound 3 (codes "x"))
    (quoted (codes "ab"))) no_condition ∷ Former OfTuple (Name (Bound 4 (codes "x"))) (over (Bound 4 (codes "x"))
    (set_of [])) no_condition ∷ Former OfSet (Name (Bound 5 (codes "x"))) (more_iterators (Member TupleSteps (Bound 5
    (codes "x"))) (exprs (number 3 ∷ number 2 ∷ number 3 ∷ [])) no_iterator) no_condition ∷ []))))
    (codes "[1 * 2] [] ['a' 'b'] [] {3}\n")
    -- print({x + y : x in {1, 2}, y in {10, 20}}, [x + y : x in {1, 2}, y in {10, 20}]);
    ∷ does 12 (just (alone 2 (print (Former OfSet (two Add (Name (Bound 1 (codes "x"))) (Name (Bound 1 (codes "y"))))
    (more_iterators (Member Values (Bound 1 (codes "x"))) (exprs (enumeration (1 ∷ 2 ∷ []) ∷ [])) (more_iterators (Member Values (Bound 1 (codes "y"))) (exprs (enumeration (10 ∷ 20 ∷ []) ∷ [])) no_iterator)) no_condition
    ∷ Former OfTuple (two Add (Name (Bound 2 (codes "x"))) (Name (Bound 2 (codes "y")))) (more_iterators (Member Values (Bound 2 (codes "x"))) (exprs (enumeration (1 ∷ 2 ∷ []) ∷ [])) (more_iterators (Member Values (Bound 2
    (codes "y"))) (exprs (enumeration (10 ∷ 20 ∷ []) ∷ [])) no_iterator)) no_condition ∷ []))))
    (codes "{11 12 21 22} [11 21 12 22]\n")
    -- print([x : x in [1..4] | even x]);
    ∷ does 4 (just (alone 2 (print (Former OfTuple (Name (Bound 1 (codes "x"))) (between (Bound 1 (codes "x"))
    (number 1) (number 4)) (only_if (one Even (Name (Bound 1 (codes "x"))))) ∷ [])))) (codes "[2 4]\n")
    -- f := {[1, 2], [2, 1]}; print({[y, x + 1] : y = f(x)}, [x - y : [x, y] in f]);
    ∷ does 4 (just (on_line 2 (assign f (set_of (row_of (1 ∷ 2 ∷ []) ∷ row_of (2 ∷ 1 ∷ []) ∷ [])) ∷ print (Former OfSet
    (tuple_of (Name (Bound 1 (codes "y")) ∷ two Add (Name (Bound 1 (codes "x"))) (number 1) ∷ [])) (more_iterators (Point (Bound 1 (codes "y")) (Bound 1 (codes "x"))) (exprs (Name f ∷ [])) no_iterator) no_condition
    ∷ Former OfTuple (two Subtract (Name (Bound 2 (codes "x"))) (Name (Bound 2 (codes "y")))) (more_iterators (Components Values (Some (Bound 2 (codes "x")) ∷ Some (Bound 2 (codes "y")) ∷ [])) (exprs (Name f
    ∷ [])) no_iterator) no_condition ∷ []) ∷ []))) (codes "{[1 3] [2 2]} [-1 1]\n")
    -- s := {1, 2}; print({#{y in s | y < x} : x in s});
    ∷ does 6 (just (on_line 2 (assign s (enumeration (1 ∷ 2 ∷ [])) ∷ print (Former OfSet (one Size (select_over OfSet (Bound 2 (codes "y")) (Name s) (two Below (Name (Bound 2 (codes "y"))) (Name (Bound 1
    (codes "x")))))) (over (Bound 1 (codes "x")) (Name s)) no_condition ∷ []) ∷ []))) (codes "{0 1}\n")
    -- print({om : x in {}}); print({om : x in [1]});
    ∷ ends (Stopped Om 2) 9 (just (on_line 2 (print (Former OfSet Undefined (over (Bound 1 (codes "x"))
    (set_of [])) no_condition ∷ []) ∷ print (Former OfSet Undefined (over (Bound 2 (codes "x")) (row_of (1
    ∷ []))) no_condition ∷ []) ∷ []))) (codes "{}\n")
    ∷ []

-- the bound names of a former are its own
abbrev pub own_name_rows : List Row
own_name_rows =
    -- x := 9; s := {x : x in {1, 2}}; print(x, s);
    does 2 (just (on_line 2 (assign x (number 9) ∷ assign s (Former OfSet (Name (Bound 1 (codes "x"))) (over (Bound 1
    (codes "x")) (enumeration (1 ∷ 2 ∷ []))) no_condition) ∷ print (Name x ∷ Name s ∷ []) ∷ [])))
    (codes "9 {1 2}\n")
    -- in the source of its own iterator the name has its meaning from outside:
    -- x := {1, 2}; print({x + 1 : x in x});
    ∷ does 2 (just (on_line 2 (assign x (enumeration (1 ∷ 2 ∷ [])) ∷ print (Former OfSet (two Add (Name (Bound 1
    (codes "x"))) (number 1)) (over (Bound 1 (codes "x")) (Name x)) no_condition ∷ []) ∷ []))) (codes "{2 3}\n")
    -- y := [5, 6]; print([[x, y] : x in y, y in [x..5]]);
    ∷ does 6 (just (on_line 2 (assign y (row_of (5 ∷ 6 ∷ [])) ∷ print (Former OfTuple (tuple_of (Name (Bound 1
    (codes "x")) ∷ Name (Bound 1 (codes "y")) ∷ [])) (more_iterators (Member Values (Bound 1 (codes "x"))) (exprs
    (Name y ∷ [])) (more_iterators (Member Between (Bound 1 (codes "y"))) (exprs (Name (Bound 1 (codes "x"))
    ∷ number 5 ∷ [])) no_iterator)) no_condition ∷ []) ∷ []))) (codes "[[5 5]]\n")
    -- print([[x : x in [x..2]] : x in [1, 2]]);
    -- with 4 turns
    ∷ ends Spent 4 (just (alone 2 (print (Former OfTuple (Former OfTuple (Name (Bound 2 (codes "x"))) (between (Bound 2
    (codes "x")) (Name (Bound 1 (codes "x"))) (number 2)) no_condition) (over (Bound 1 (codes "x")) (row_of (1 ∷ 2
    ∷ []))) no_condition ∷ [])))) []
    -- print([[x : x in [x..2]] : x in [1, 2]]);
    ∷ does 5 (just (alone 2 (print (Former OfTuple (Former OfTuple (Name (Bound 2 (codes "x"))) (between (Bound 2
    (codes "x")) (Name (Bound 1 (codes "x"))) (number 2)) no_condition) (over (Bound 1 (codes "x")) (row_of (1 ∷ 2
    ∷ []))) no_condition ∷ [])))) (codes "[[1 2] [2]]\n")
    ∷ []

-- `{x in s | c}` collects the members themselves
abbrev pub selection_rows : List Row
selection_rows =
    -- print({x in {1, 2, 3} | x > 1}, [x in [1, om, 2] | true], [x in 'abc' | x /= 'b'](1..1));
    does 9 (just (alone 2 (print (select_over OfSet (Bound 1 (codes "x")) (enumeration (1 ∷ 2 ∷ 3 ∷ [])) (two Above (Name (Bound 1 (codes "x"))) (number 1)) ∷ select_over OfTuple (Bound 2 (codes "x")) (tuple_of
    (number 1 ∷ Undefined ∷ number 2 ∷ [])) yes ∷ from_to (select_over OfTuple (Bound 3
    (codes "x")) (quoted (codes "abc")) (two NotEqual (Name (Bound 3 (codes "x"))) (quoted
    (codes "b")))) (number 1) (number 1) ∷ [])))) (codes "{2 3} [1 * 2] ['a']\n")
    -- print([[x, y] in [[1, 1], [1, 2], [3]] | x = y or y = om]);
    ∷ does 3 (just (alone 2 (print (Selection OfTuple (Components Values (Some (Bound 1 (codes "x")) ∷ Some
    (Bound 1 (codes "y")) ∷ [])) (exprs (tuple_of (row_of (1 ∷ 1 ∷ []) ∷ row_of (1 ∷ 2 ∷ []) ∷ row_of (3
    ∷ []) ∷ []) ∷ [])) (Connect Or (two Equal (Name (Bound 1 (codes "x"))) (Name (Bound 1
    (codes "y")))) (two Equal (Name (Bound 1 (codes "y"))) Undefined)) ∷ [])))) (codes "[[1 1] [3]]\n")
    -- without a condition it is an enumeration of one boolean:
    -- s := {1}; x := 1; print({x in s}, {y in s | y = 2});
    ∷ does 1 (just (on_line 2 (assign s (enumeration (1 ∷ [])) ∷ assign x (number 1) ∷ print (set_of (two In (Name x)
    (Name s) ∷ []) ∷ select_over OfSet (Bound 1 (codes "y")) (Name s) (two Equal (Name (Bound 1
    (codes "y"))) (number 2)) ∷ []) ∷ []))) (codes "{true} {}\n")
    -- print({x in [1..3] | even x}, [x in {2, 1} | true]);
    ∷ does 5 (just (alone 2 (print (select_between OfSet (Bound 1 (codes "x")) (number 1) (number 3) (one Even (Name (Bound 1 (codes "x")))) ∷ select_over OfTuple (Bound 2 (codes "x")) (enumeration (2 ∷ 1
    ∷ [])) yes ∷ [])))) (codes "{2} [1 2]\n")
    ∷ []

-- the stops of formers
abbrev pub former_stops : List Row
former_stops =
    -- om: {x : x in [1, om, 2]}; {x in [1, om, 2] | true}; [x : x in om]; [x : x in [1] | om]; {x in om | true}
    all_stop Om (
    Former OfSet (Name (Bound 1 (codes "x"))) (over (Bound 1 (codes "x")) (tuple_of (number 1 ∷ Undefined
    ∷ number 2 ∷ []))) no_condition
    ∷ select_over OfSet (Bound 1 (codes "x")) (tuple_of (number 1 ∷ Undefined ∷ number 2 ∷ [])) yes
    ∷ Former OfTuple (Name (Bound 1 (codes "x"))) (over (Bound 1 (codes "x")) Undefined) no_condition
    ∷ Former OfTuple (Name (Bound 1 (codes "x"))) (over (Bound 1 (codes "x")) (row_of (1 ∷ [])))
    (only_if Undefined)
    ∷ select_over OfSet (Bound 1 (codes "x")) Undefined yes
    ∷ [])
    -- kind: [x : x in 5]; [x : x in [1] | x]; {x in {1} | 'a'}; [x : [x] in [1]]; {[x] in {1} | true}
    ++ all_stop Kind (
    Former OfTuple (Name (Bound 1 (codes "x"))) (over (Bound 1 (codes "x")) (number 5)) no_condition
    ∷ Former OfTuple (Name (Bound 1 (codes "x"))) (over (Bound 1 (codes "x")) (row_of (1 ∷ []))) (only_if (Name
    (Bound 1 (codes "x"))))
    ∷ select_over OfSet (Bound 1 (codes "x")) (enumeration (1 ∷ [])) (quoted (codes "a"))
    ∷ Former OfTuple (Name (Bound 1 (codes "x"))) (more_iterators (Components Values (Some (Bound 1 (codes "x"))
    ∷ [])) (exprs (row_of (1 ∷ []) ∷ [])) no_iterator) no_condition
    ∷ Selection OfSet (Components Values (Some (Bound 1 (codes "x")) ∷ [])) (exprs (enumeration (1
    ∷ []) ∷ [])) yes
    ∷ [])
    -- deep: {deepest : x in [1]}; [deepest : x in [1]]
    ++ all_stop Deep (
    Former OfSet deepest (over (Bound 1 (codes "x")) (row_of (1 ∷ []))) no_condition
    ∷ Former OfTuple deepest (over (Bound 1 (codes "x")) (row_of (1 ∷ []))) no_condition
    ∷ [])
    -- print({x in deepest | true} = deepest, [nearly : x in [1]] = [nearly], {y : y in deepest} = deepest);
    ++ writes 3 (
    two Equal (select_over OfSet (Bound 1 (codes "x")) deepest yes) deepest
    ∷ two Equal (Former OfTuple nearly (over (Bound 2 (codes "x")) (row_of (1 ∷ []))) no_condition) (tuple_of
    (nearly ∷ []))
    ∷ two Equal (Former OfSet (Name (Bound 3 (codes "y"))) (over (Bound 3
    (codes "y")) deepest) no_condition) deepest
    ∷ []) (codes "true true true")
    ∷ []
