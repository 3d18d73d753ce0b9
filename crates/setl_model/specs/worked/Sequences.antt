-- Worked rows of tuples and strings.
use Rattle.std.specs.Prelude.{List, [], ◌∷◌, ◌++◌, codes}
use Rattle.setl_operators_table.specs.declared.Operator.TheVariants.{With, Add, Multiply, Modulo, Size}
use Rattle.setl_program.specs.Program.{Undefined}
use Rattle.setl_model_runs.specs.Events.{Om, Kind, Range as OutOfRange}
use Rattle.setl_program.specs.Source.{yes, number, quoted, one, two, minus, set_of, tuple_of, enumeration, row_of, at_round, from_to, from_on}
use Rattle.setl_model.specs.Table.{Row, writes, spends, all_stop}

-- tuples and strings; the `om` at the end of a tuple is dropped
abbrev pub sequence_rows : List Row
sequence_rows =
    -- print([1] + [2], [] + [], [1, om, 2] + [3], 'ab' + 'c', [om] + [1]);
    writes 0 (
    two Add (row_of (1 ∷ [])) (row_of (2 ∷ []))
    ∷ two Add (tuple_of []) (tuple_of [])
    ∷ two Add (tuple_of (number 1 ∷ Undefined ∷ number 2 ∷ [])) (row_of (3 ∷ []))
    ∷ two Add (quoted (codes "ab")) (quoted (codes "c"))
    ∷ two Add (tuple_of (Undefined ∷ [])) (row_of (1 ∷ []))
    ∷ []) (codes "[1 2] [] [1 * 2 3] abc [1]")
    -- print([1, om, om], [om], [om, 1], [], #[1, om, 3, om], #'it''s', #'');
    ∷ writes 0 (
    tuple_of (number 1 ∷ Undefined ∷ Undefined ∷ [])
    ∷ tuple_of (Undefined ∷ [])
    ∷ tuple_of (Undefined ∷ number 1 ∷ [])
    ∷ tuple_of []
    ∷ one Size (tuple_of (number 1 ∷ Undefined ∷ number 3 ∷ Undefined ∷ []))
    ∷ one Size (quoted (codes "it's"))
    ∷ one Size (quoted (codes ""))
    ∷ []) (codes "[1] [] [* 1] [] 3 4 0")
    -- print([1] with 2, [] with [], [om, 1] with 'a', [1, om] with 2);
    ∷ writes 0 (
    two With (row_of (1 ∷ [])) (number 2)
    ∷ two With (tuple_of []) (tuple_of [])
    ∷ two With (tuple_of (Undefined ∷ number 1 ∷ [])) (quoted (codes "a"))
    ∷ two With (tuple_of (number 1 ∷ Undefined ∷ [])) (number 2)
    ∷ []) (codes "[1 2] [[]] [* 1 'a'] [1 2]")
    -- kind: [1] + 1; 'a' + 1; [1] + 'a'; 'a' with 'b'; [1] mod [1]
    ∷ all_stop Kind (
    two Add (row_of (1 ∷ [])) (number 1)
    ∷ two Add (quoted (codes "a")) (number 1)
    ∷ two Add (row_of (1 ∷ [])) (quoted (codes "a"))
    ∷ two With (quoted (codes "a")) (quoted (codes "b"))
    ∷ two Modulo (row_of (1 ∷ [])) (row_of (1 ∷ []))
    ∷ [])
    -- om: [1] with om; [1] + om; 'a' + om
    ++ all_stop Om (
    two With (row_of (1 ∷ [])) Undefined
    ∷ two Add (row_of (1 ∷ [])) Undefined
    ∷ two Add (quoted (codes "a")) Undefined
    ∷ [])

-- n copies charge n turns, also of an empty string or tuple
abbrev pub copy_rows : List Row
copy_rows =
    -- print(2 * [1, om, 3], 'ab' * 2, 0 * [1], 3 * '');
    writes 7 (
    two Multiply (number 2) (tuple_of (number 1 ∷ Undefined ∷ number 3 ∷ []))
    ∷ two Multiply (quoted (codes "ab")) (number 2)
    ∷ two Multiply (number 0) (row_of (1 ∷ []))
    ∷ two Multiply (number 3) (quoted (codes ""))
    ∷ []) (codes "[1 * 3 1 * 3] abab [] ")
    -- print(2 * [1, om, 3], 'ab' * 2, 0 * [1], 3 * ''); with 6 turns
    ∷ spends 6 (
    two Multiply (number 2) (tuple_of (number 1 ∷ Undefined ∷ number 3 ∷ []))
    ∷ two Multiply (quoted (codes "ab")) (number 2)
    ∷ two Multiply (number 0) (row_of (1 ∷ []))
    ∷ two Multiply (number 3) (quoted (codes ""))
    ∷ [])
    -- print(3 * []); with 2 turns
    ∷ spends 2 (
    two Multiply (number 3) (tuple_of [])
    ∷ [])
    -- print([1] * 2, 3 * 'a');
    ∷ writes 5 (
    two Multiply (row_of (1 ∷ [])) (number 2)
    ∷ two Multiply (number 3) (quoted (codes "a"))
    ∷ []) (codes "[1 1] aaa")
    -- range: -1 * [1]; [1] * -1; -1 * ''
    ∷ all_stop OutOfRange (
    two Multiply (minus 1) (row_of (1 ∷ []))
    ∷ two Multiply (row_of (1 ∷ [])) (minus 1)
    ∷ two Multiply (minus 1) (quoted (codes ""))
    ∷ [])
    -- kind: 2 * {1}; -1 * {1}; true * 'a'; 'a' * 'b'; [1] * [1]; [1] * 'a'
    ++ all_stop Kind (
    two Multiply (number 2) (enumeration (1 ∷ []))
    ∷ two Multiply (minus 1) (enumeration (1 ∷ []))
    ∷ two Multiply yes (quoted (codes "a"))
    ∷ two Multiply (quoted (codes "a")) (quoted (codes "b"))
    ∷ two Multiply (row_of (1 ∷ [])) (row_of (1 ∷ []))
    ∷ two Multiply (row_of (1 ∷ [])) (quoted (codes "a"))
    ∷ [])
    -- om: om * 'a'; [] * om; om * om
    ++ all_stop Om (
    two Multiply Undefined (quoted (codes "a"))
    ∷ two Multiply (tuple_of []) Undefined
    ∷ two Multiply Undefined Undefined
    ∷ [])

-- a component or a byte at a place counted from 1, `om` past the end
abbrev pub component_rows : List Row
component_rows =
    -- print([1, om, 3](1), [1, om, 3](2), [1, om, 3](3), [1, om, 3](4), 'abc'(2), 'abc'(4), [](1));
    writes 0 (
    at_round (tuple_of (number 1 ∷ Undefined ∷ number 3 ∷ [])) (number 1)
    ∷ at_round (tuple_of (number 1 ∷ Undefined ∷ number 3 ∷ [])) (number 2)
    ∷ at_round (tuple_of (number 1 ∷ Undefined ∷ number 3 ∷ [])) (number 3)
    ∷ at_round (tuple_of (number 1 ∷ Undefined ∷ number 3 ∷ [])) (number 4)
    ∷ at_round (quoted (codes "abc")) (number 2)
    ∷ at_round (quoted (codes "abc")) (number 4)
    ∷ at_round (tuple_of []) (number 1)
    ∷ []) (codes "1 * 3 * b * *")
    -- range: [1](0); [1](-1); 'abc'(0)
    ∷ all_stop OutOfRange (
    at_round (row_of (1 ∷ [])) (number 0)
    ∷ at_round (row_of (1 ∷ [])) (minus 1)
    ∷ at_round (quoted (codes "abc")) (number 0)
    ∷ [])
    -- kind: [1]('a'); 'a'(true); 1(1); true(1); [1]([1])
    ++ all_stop Kind (
    at_round (row_of (1 ∷ [])) (quoted (codes "a"))
    ∷ at_round (quoted (codes "a")) yes
    ∷ at_round (number 1) (number 1)
    ∷ at_round yes (number 1)
    ∷ at_round (row_of (1 ∷ [])) (row_of (1 ∷ []))
    ∷ [])
    -- om: [1](om); om(1); 'a'(om); om(om)
    ++ all_stop Om (
    at_round (row_of (1 ∷ [])) Undefined
    ∷ at_round Undefined (number 1)
    ∷ at_round (quoted (codes "a")) Undefined
    ∷ at_round Undefined Undefined
    ∷ [])

-- the places i to j, counted from 1; none where i is j + 1
abbrev pub slice_rows : List Row
slice_rows =
    -- print([1, 2, 3](2..3), [1, 2, 3](1..0), [1, 2, 3](4..3), [1, 2, 3](3..2), [1, om, 3](1..2), [1, 2](3..));
    writes 0 (
    from_to (row_of (1 ∷ 2 ∷ 3 ∷ [])) (number 2) (number 3)
    ∷ from_to (row_of (1 ∷ 2 ∷ 3 ∷ [])) (number 1) (number 0)
    ∷ from_to (row_of (1 ∷ 2 ∷ 3 ∷ [])) (number 4) (number 3)
    ∷ from_to (row_of (1 ∷ 2 ∷ 3 ∷ [])) (number 3) (number 2)
    ∷ from_to (tuple_of (number 1 ∷ Undefined ∷ number 3 ∷ [])) (number 1) (number 2)
    ∷ from_on (row_of (1 ∷ 2 ∷ [])) (number 3)
    ∷ []) (codes "[2 3] [] [] [] [1] []")
    -- print('abc'(2..2), 'abc'(2..), 'abc'(1..3), #'abc'(4..), [](1..), [om, 2](1..));
    ∷ writes 0 (
    from_to (quoted (codes "abc")) (number 2) (number 2)
    ∷ from_on (quoted (codes "abc")) (number 2)
    ∷ from_to (quoted (codes "abc")) (number 1) (number 3)
    ∷ one Size (from_on (quoted (codes "abc")) (number 4))
    ∷ from_on (tuple_of []) (number 1)
    ∷ from_on (tuple_of (Undefined ∷ number 2 ∷ [])) (number 1)
    ∷ []) (codes "b bc abc 0 [] [* 2]")
    -- range: [1, 2](0..1); [1, 2](1..3); [1, 2](3..1); [1, 2](4..); [1, 2](0..); [1, 2](1..-1); 'ab'(3..4); 'ab'(4..)
    ∷ all_stop OutOfRange (
    from_to (row_of (1 ∷ 2 ∷ [])) (number 0) (number 1)
    ∷ from_to (row_of (1 ∷ 2 ∷ [])) (number 1) (number 3)
    ∷ from_to (row_of (1 ∷ 2 ∷ [])) (number 3) (number 1)
    ∷ from_on (row_of (1 ∷ 2 ∷ [])) (number 4)
    ∷ from_on (row_of (1 ∷ 2 ∷ [])) (number 0)
    ∷ from_to (row_of (1 ∷ 2 ∷ [])) (number 1) (minus 1)
    ∷ from_to (quoted (codes "ab")) (number 3) (number 4)
    ∷ from_on (quoted (codes "ab")) (number 4)
    ∷ [])
    -- kind: {1}(1..1); [1]('a'..1); [1](1..true); 1(1..); {}(1..); 'a'('b'..)
    ++ all_stop Kind (
    from_to (enumeration (1 ∷ [])) (number 1) (number 1)
    ∷ from_to (row_of (1 ∷ [])) (quoted (codes "a")) (number 1)
    ∷ from_to (row_of (1 ∷ [])) (number 1) yes
    ∷ from_on (number 1) (number 1)
    ∷ from_on (set_of []) (number 1)
    ∷ from_on (quoted (codes "a")) (quoted (codes "b"))
    ∷ [])
    -- om: [1](om..1); [1](1..om); om(1..); [1](0..om); {}(om..)
    ++ all_stop Om (
    from_to (row_of (1 ∷ [])) Undefined (number 1)
    ∷ from_to (row_of (1 ∷ [])) (number 1) Undefined
    ∷ from_on Undefined (number 1)
    ∷ from_to (row_of (1 ∷ [])) (number 0) Undefined
    ∷ from_on (set_of []) Undefined
    ∷ [])
