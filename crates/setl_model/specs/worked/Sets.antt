-- Worked rows of sets.
use Rattle.std.specs.Prelude.{List, [], ◌∷◌, ◌++◌, codes}
use Rattle.setl_operators_table.specs.declared.Operator.TheVariants.{With, Less, Npow, Add, Subtract, Multiply, Modulo, Equal, In, Size, Pow, Arb}
use Rattle.setl_program.specs.Program.{Undefined, Call, no_argument, Return}
use Rattle.setl_model_runs.specs.Events.{Om, Kind, Deep, Stopped, Range as OutOfRange}
use Rattle.setl_program.specs.Source.{yes, number, quoted, one, two, minus, set_of, tuple_of, enumeration, row_of, at_round, at_brace, print, on_line, alone, with_procedures, deepest, nearly, procedure}
use Rattle.setl_model.specs.Table.{Row, writes, spends, all_stop, ends}

-- operations on sets
abbrev pub set_rows : List Row
set_rows =
    -- print({1, 2} + {2, 3}, {1, 2} - {2, 3}, {1, 2} * {2, 3}, {1, 2} mod {2, 3});
    writes 0 (
    two Add (enumeration (1 ∷ 2 ∷ [])) (enumeration (2 ∷ 3 ∷ []))
    ∷ two Subtract (enumeration (1 ∷ 2 ∷ [])) (enumeration (2 ∷ 3 ∷ []))
    ∷ two Multiply (enumeration (1 ∷ 2 ∷ [])) (enumeration (2 ∷ 3 ∷ []))
    ∷ two Modulo (enumeration (1 ∷ 2 ∷ [])) (enumeration (2 ∷ 3 ∷ []))
    ∷ []) (codes "{1 2 3} {1} {2} {1 3}")
    -- print({1} with 2 with 1, {1, 2} less 1, {} less 1, {1} with {1}, #{}, #{2, 1, 2});
    ∷ writes 0 (
    two With (two With (enumeration (1 ∷ [])) (number 2)) (number 1)
    ∷ two Less (enumeration (1 ∷ 2 ∷ [])) (number 1)
    ∷ two Less (set_of []) (number 1)
    ∷ two With (enumeration (1 ∷ [])) (enumeration (1 ∷ []))
    ∷ one Size (set_of [])
    ∷ one Size (enumeration (2 ∷ 1 ∷ 2 ∷ []))
    ∷ []) (codes "{1 2} {2} {} {1 {1}} 0 2")
    -- print(arb {2, 'a', 1}, arb {}, arb {true, -5}, arb {[1], 'z'});
    ∷ writes 0 (
    one Arb (set_of (number 2 ∷ quoted (codes "a") ∷ number 1 ∷ []))
    ∷ one Arb (set_of [])
    ∷ one Arb (set_of (yes ∷ minus 5 ∷ []))
    ∷ one Arb (set_of (row_of (1 ∷ []) ∷ quoted (codes "z") ∷ []))
    ∷ []) (codes "1 * true z")
    -- kind: 1 with 2; [1] less 1; {1} + [1]; {1} + 1; [1] - [1]; 'a' - 'a'; {1} * [1]; {1} mod 1; # 1; # true; arb
    --   [1]; arb 'a'
    ∷ all_stop Kind (
    two With (number 1) (number 2)
    ∷ two Less (row_of (1 ∷ [])) (number 1)
    ∷ two Add (enumeration (1 ∷ [])) (row_of (1 ∷ []))
    ∷ two Add (enumeration (1 ∷ [])) (number 1)
    ∷ two Subtract (row_of (1 ∷ [])) (row_of (1 ∷ []))
    ∷ two Subtract (quoted (codes "a")) (quoted (codes "a"))
    ∷ two Multiply (enumeration (1 ∷ [])) (row_of (1 ∷ []))
    ∷ two Modulo (enumeration (1 ∷ [])) (number 1)
    ∷ one Size (number 1)
    ∷ one Size yes
    ∷ one Arb (row_of (1 ∷ []))
    ∷ one Arb (quoted (codes "a"))
    ∷ [])
    -- om: {1} less om; {} with om; om with 1; om less 1; {} + om; # om; arb om; om - {}; om mod {}
    ++ all_stop Om (
    two Less (enumeration (1 ∷ [])) Undefined
    ∷ two With (set_of []) Undefined
    ∷ two With Undefined (number 1)
    ∷ two Less Undefined (number 1)
    ∷ two Add (set_of []) Undefined
    ∷ one Size Undefined
    ∷ one Arb Undefined
    ∷ two Subtract Undefined (set_of [])
    ∷ two Modulo Undefined (set_of [])
    ∷ [])

-- an enumeration of a set takes no `om`
abbrev pub enumeration_rows : List Row
enumeration_rows =
    -- print({3, 1, 2, 1}, {}, {[], {}, ''});
    writes 0 (
    enumeration (3 ∷ 1 ∷ 2 ∷ 1 ∷ [])
    ∷ set_of []
    ∷ set_of (tuple_of [] ∷ set_of [] ∷ quoted (codes "") ∷ [])
    ∷ []) (codes "{1 2 3} {} {'' [] {}}")
    -- om: {om}; {1, om, 2}
    ∷ all_stop Om (
    set_of (Undefined ∷ [])
    ∷ set_of (number 1 ∷ Undefined ∷ number 2 ∷ [])
    ∷ [])
    -- all parts are evaluated before the first is tested:
    -- print({om, p()});
    -- proc p(); print(7); return 1; end proc;
    ++ ends (Stopped Om 2) 1 (with_procedures (alone 2 (print (set_of (Undefined ∷ Call 0 no_argument ∷ []) ∷ [])))
    ((procedure (codes "p") [] (on_line 3 (print (number 7 ∷ []) ∷ Return (number 1)
    ∷ []))) ∷ [])) (codes "7\n")
    ∷ []

-- sets of subsets, which charge their number
abbrev pub subset_rows : List Row
subset_rows =
    -- print(pow {});
    writes 1 (
    one Pow (set_of [])
    ∷ []) (codes "{{}}")
    -- print(pow {1, 2, 3});
    ∷ writes 8 (
    one Pow (enumeration (1 ∷ 2 ∷ 3 ∷ []))
    ∷ []) (codes "{{} {1} {1 2} {1 2 3} {1 3} {2} {2 3} {3}}")
    -- print(pow {1, 2, 3}); with 7 turns
    ∷ spends 7 (
    one Pow (enumeration (1 ∷ 2 ∷ 3 ∷ []))
    ∷ [])
    -- print(0 npow {1, 2}, 3 npow {1, 2}, 1 npow {}, 0 npow {});
    ∷ writes 2 (
    two Npow (number 0) (enumeration (1 ∷ 2 ∷ []))
    ∷ two Npow (number 3) (enumeration (1 ∷ 2 ∷ []))
    ∷ two Npow (number 1) (set_of [])
    ∷ two Npow (number 0) (set_of [])
    ∷ []) (codes "{{}} {} {} {{}}")
    -- print(0 npow {1, 2}, 0 npow {}); with 1 turns
    ∷ spends 1 (
    two Npow (number 0) (enumeration (1 ∷ 2 ∷ []))
    ∷ two Npow (number 0) (set_of [])
    ∷ [])
    -- print(2 npow {1, 2, 3}); with 2 turns
    ∷ spends 2 (
    two Npow (number 2) (enumeration (1 ∷ 2 ∷ 3 ∷ []))
    ∷ [])
    -- range: -1 npow {1}
    ∷ all_stop OutOfRange (
    two Npow (minus 1) (enumeration (1 ∷ []))
    ∷ [])
    -- kind: pow 1; pow [1]; 'a' npow {1}; -1 npow 1; -1 npow [1]
    ++ all_stop Kind (
    one Pow (number 1)
    ∷ one Pow (row_of (1 ∷ []))
    ∷ two Npow (quoted (codes "a")) (enumeration (1 ∷ []))
    ∷ two Npow (minus 1) (number 1)
    ∷ two Npow (minus 1) (row_of (1 ∷ []))
    ∷ [])
    -- om: pow om; om npow {1}; -1 npow om; om npow 1
    ++ all_stop Om (
    one Pow Undefined
    ∷ two Npow Undefined (enumeration (1 ∷ []))
    ∷ two Npow (minus 1) Undefined
    ∷ two Npow Undefined (number 1)
    ∷ [])

-- a value is at most 500 deep; `deepest` is a set of depth 500, and `nearly` its one member
abbrev pub depth_rows : List Row
depth_rows =
    -- deep: {deepest}; [deepest]; [1, deepest]; {} with deepest; [] with deepest; pow deepest; 1 npow deepest;
    --   {}(deepest, 1); {}{1, deepest}
    all_stop Deep (
    set_of (deepest ∷ [])
    ∷ tuple_of (deepest ∷ [])
    ∷ tuple_of (number 1 ∷ deepest ∷ [])
    ∷ two With (set_of []) deepest
    ∷ two With (tuple_of []) deepest
    ∷ one Pow deepest
    ∷ two Npow (number 1) deepest
    ∷ at_round (set_of []) (tuple_of (deepest ∷ number 1 ∷ []))
    ∷ at_brace (set_of []) (tuple_of (number 1 ∷ deepest ∷ []))
    ∷ [])
    -- print(0 npow deepest, 5 npow deepest, pow {}, # deepest, 1 npow nearly = deepest);
    ++ writes 3 (
    two Npow (number 0) deepest
    ∷ two Npow (number 5) deepest
    ∷ one Pow (set_of [])
    ∷ one Size deepest
    ∷ two Equal (two Npow (number 1) nearly) deepest
    ∷ []) (codes "{{}} {} {{}} 1 true")
    -- print(pow deepest); with 1 turns
    ∷ spends 1 (
    one Pow deepest
    ∷ [])
    -- print(deepest less 1 = deepest, deepest in {}, {nearly} = deepest, {} with nearly = deepest);
    ∷ writes 0 (
    two Equal (two Less deepest (number 1)) deepest
    ∷ two In deepest (set_of [])
    ∷ two Equal (set_of (nearly ∷ [])) deepest
    ∷ two Equal (two With (set_of []) nearly) deepest
    ∷ []) (codes "true false true true")
    ∷ []
