-- Worked rows of ranges.
use Rattle.std.specs.Prelude.{List, [], ◌∷◌, ◌++◌, codes}
use Rattle.setl_operators_table.specs.declared.Operator.TheVariants.{Subtract, SetRange, TupleRange, SetStep, TupleStep}
use Rattle.setl_program.specs.Program.{Undefined}
use Rattle.setl_model_runs.specs.Events.{Om, Kind, Zero}
use Rattle.setl_program.specs.Source.{yes, number, quoted, two, three, minus}
use Rattle.setl_model.specs.Table.{Row, writes, spends, all_stop}

-- a range charges the number of its members
abbrev pub range_rows : List Row
range_rows =
    -- print([1..3], {1..3}, [3..1], [2..2], [-1..1]);
    writes 10 (
    two TupleRange (number 1) (number 3)
    ∷ two SetRange (number 1) (number 3)
    ∷ two TupleRange (number 3) (number 1)
    ∷ two TupleRange (number 2) (number 2)
    ∷ two TupleRange (minus 1) (number 1)
    ∷ []) (codes "[1 2 3] {1 2 3} [] [2] [-1 0 1]")
    -- print([1..3], {1..3}, [3..1], [2..2], [-1..1]); with 9 turns
    ∷ spends 9 (
    two TupleRange (number 1) (number 3)
    ∷ two SetRange (number 1) (number 3)
    ∷ two TupleRange (number 3) (number 1)
    ∷ two TupleRange (number 2) (number 2)
    ∷ two TupleRange (minus 1) (number 1)
    ∷ [])
    -- print({5..5}); with 0 turns
    ∷ spends 0 (
    two SetRange (number 5) (number 5)
    ∷ [])
    -- print([5, 3..1], {5, 3..1}, [1, 3..6], [2, 1..3], [1, 2..0], [1, 3..2]);
    ∷ writes 10 (
    three TupleStep (number 5) (number 3) (number 1)
    ∷ three SetStep (number 5) (number 3) (number 1)
    ∷ three TupleStep (number 1) (number 3) (number 6)
    ∷ three TupleStep (number 2) (number 1) (number 3)
    ∷ three TupleStep (number 1) (number 2) (number 0)
    ∷ three TupleStep (number 1) (number 3) (number 2)
    ∷ []) (codes "[5 3 1] {1 3 5} [1 3 5] [] [] [1]")
    -- print([5, 3..1]); with 2 turns
    ∷ spends 2 (
    three TupleStep (number 5) (number 3) (number 1)
    ∷ [])
    -- print([(-170141183460469231731687303715884105727 - 1), 170141183460469231731687303715884105727..0]);
    ∷ writes 1 (
    three TupleStep (two Subtract (minus 170141183460469231731687303715884105727) (number 1))
    (number 170141183460469231731687303715884105727) (number 0)
    ∷ []) (codes "[-170141183460469231731687303715884105728]")
    -- print([170141183460469231731687303715884105727, (-170141183460469231731687303715884105727 -
    --   1)..(-170141183460469231731687303715884105727 - 1)]);
    ∷ writes 2 (
    three TupleStep (number 170141183460469231731687303715884105727) (two Subtract
    (minus 170141183460469231731687303715884105727) (number 1)) (two Subtract
    (minus 170141183460469231731687303715884105727) (number 1))
    ∷ []) (codes "[170141183460469231731687303715884105727 -170141183460469231731687303715884105728]")
    -- zero: [1, 1..5]; {1, 1..0}; [1, 1..1]
    ∷ all_stop Zero (
    three TupleStep (number 1) (number 1) (number 5)
    ∷ three SetStep (number 1) (number 1) (number 0)
    ∷ three TupleStep (number 1) (number 1) (number 1)
    ∷ [])
    -- kind: ['a'..1]; {1..'b'}; {1, 'a'..3}; [1, 1..'a']; [1, 2..true]
    ++ all_stop Kind (
    two TupleRange (quoted (codes "a")) (number 1)
    ∷ two SetRange (number 1) (quoted (codes "b"))
    ∷ three SetStep (number 1) (quoted (codes "a")) (number 3)
    ∷ three TupleStep (number 1) (number 1) (quoted (codes "a"))
    ∷ three TupleStep (number 1) (number 2) yes
    ∷ [])
    -- om: [om..1]; {1..om}; {1, 2..om}; [1, 1..om]; ['a', om..1]
    ++ all_stop Om (
    two TupleRange Undefined (number 1)
    ∷ two SetRange (number 1) Undefined
    ∷ three SetStep (number 1) (number 2) Undefined
    ∷ three TupleStep (number 1) (number 1) Undefined
    ∷ three TupleStep (quoted (codes "a")) Undefined (number 1)
    ∷ [])
