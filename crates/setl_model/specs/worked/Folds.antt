-- Worked rows of folds and texts.
use Rattle.std.specs.Prelude.{List, [], ◌∷◌, ◌++◌, codes}
use Rattle.setl_operators_table.specs.declared.Operator.TheVariants.{Size, Str, FoldAdd, FoldMultiply, FoldMax, FoldMin, FoldAnd, FoldOr}
use Rattle.setl_program.specs.Program.{Undefined, Newat}
use Rattle.setl_model_runs.specs.Events.{Om, Kind, Wide, Range as OutOfRange}
use Rattle.setl_program.specs.Source.{yes, no, number, quoted, one, minus, set_of, tuple_of, enumeration, row_of, print, on_line, just}
use Rattle.setl_model.specs.Table.{Row, writes, spends, all_stop, does}

-- the members or components are combined from the left; one alone is itself
abbrev pub fold_rows : List Row
fold_rows =
    -- print(+/ [1, 2, 3, 4], */ {2, 3, 4}, max/ {3, 9, 4}, min/ [3, 1, 2], and/ [true, false], or/ [false, true]);
    writes 0 (
    one FoldAdd (row_of (1 ∷ 2 ∷ 3 ∷ 4 ∷ []))
    ∷ one FoldMultiply (enumeration (2 ∷ 3 ∷ 4 ∷ []))
    ∷ one FoldMax (enumeration (3 ∷ 9 ∷ 4 ∷ []))
    ∷ one FoldMin (row_of (3 ∷ 1 ∷ 2 ∷ []))
    ∷ one FoldAnd (tuple_of (yes ∷ no ∷ []))
    ∷ one FoldOr (tuple_of (no ∷ yes ∷ []))
    ∷ []) (codes "10 24 9 1 false true")
    -- print(+/ {}, max/ [], and/ {}, +/ [om, om]);
    ∷ writes 0 (
    one FoldAdd (set_of [])
    ∷ one FoldMax (tuple_of [])
    ∷ one FoldAnd (set_of [])
    ∷ one FoldAdd (tuple_of (Undefined ∷ Undefined ∷ []))
    ∷ []) (codes "* * * *")
    -- print(and/ [5], +/ ['a'], max/ {{1}}, */ [[1]], min/ [om, om, om]);
    ∷ writes 0 (
    one FoldAnd (row_of (5 ∷ []))
    ∷ one FoldAdd (tuple_of (quoted (codes "a") ∷ []))
    ∷ one FoldMax (set_of (enumeration (1 ∷ []) ∷ []))
    ∷ one FoldMultiply (tuple_of (row_of (1 ∷ []) ∷ []))
    ∷ one FoldMin (tuple_of (Undefined ∷ Undefined ∷ Undefined ∷ []))
    ∷ []) (codes "5 a {1} [1] *")
    -- print(+/ {'b', 'a', 'c'}, +/ [{2}, {1}], +/ [[1], [2]]);
    ∷ writes 0 (
    one FoldAdd (set_of (quoted (codes "b") ∷ quoted (codes "a") ∷ quoted (codes "c") ∷ []))
    ∷ one FoldAdd (tuple_of (enumeration (2 ∷ []) ∷ enumeration (1 ∷ []) ∷ []))
    ∷ one FoldAdd (tuple_of (row_of (1 ∷ []) ∷ row_of (2 ∷ []) ∷ []))
    ∷ []) (codes "abc {1 2} [1 2]")
    -- print(*/ [2, [1], 3]);
    ∷ writes 5 (
    one FoldMultiply (tuple_of (number 2 ∷ row_of (1 ∷ []) ∷ number 3 ∷ []))
    ∷ []) (codes "[1 1 1 1 1 1]")
    -- print(*/ [2, [1], 3]); with 4 turns
    ∷ spends 4 (
    one FoldMultiply (tuple_of (number 2 ∷ row_of (1 ∷ []) ∷ number 3 ∷ []))
    ∷ [])
    -- kind: and/ [true, true, 5]; and/ [false, 5]; or/ [true, 5]; +/ 5; +/ 'ab'; max/ {1, 'a'}; +/ [1, 'a', om, 2]; */
    --   ['a', 'b']
    ∷ all_stop Kind (
    one FoldAnd (tuple_of (yes ∷ yes ∷ number 5 ∷ []))
    ∷ one FoldAnd (tuple_of (no ∷ number 5 ∷ []))
    ∷ one FoldOr (tuple_of (yes ∷ number 5 ∷ []))
    ∷ one FoldAdd (number 5)
    ∷ one FoldAdd (quoted (codes "ab"))
    ∷ one FoldMax (set_of (number 1 ∷ quoted (codes "a") ∷ []))
    ∷ one FoldAdd (tuple_of (number 1 ∷ quoted (codes "a") ∷ Undefined ∷ number 2 ∷ []))
    ∷ one FoldMultiply (tuple_of (quoted (codes "a") ∷ quoted (codes "b") ∷ []))
    ∷ [])
    -- om: +/ [1, om, 2]; +/ [true, om, 1]; +/ [om, 1]; +/ om; and/ [om, 'a']; max/ [om, om, 1]
    ++ all_stop Om (
    one FoldAdd (tuple_of (number 1 ∷ Undefined ∷ number 2 ∷ []))
    ∷ one FoldAdd (tuple_of (yes ∷ Undefined ∷ number 1 ∷ []))
    ∷ one FoldAdd (tuple_of (Undefined ∷ number 1 ∷ []))
    ∷ one FoldAdd Undefined
    ∷ one FoldAnd (tuple_of (Undefined ∷ quoted (codes "a") ∷ []))
    ∷ one FoldMax (tuple_of (Undefined ∷ Undefined ∷ number 1 ∷ []))
    ∷ [])
    -- wide: */ [170141183460469231731687303715884105727, 2, 'a']; +/ {170141183460469231731687303715884105727, 1}
    ++ all_stop Wide (
    one FoldMultiply (tuple_of (number 170141183460469231731687303715884105727 ∷ number 2 ∷ quoted (codes "a")
    ∷ []))
    ∷ one FoldAdd (enumeration (170141183460469231731687303715884105727 ∷ 1 ∷ []))
    ∷ [])
    -- range: */ [-1, 'a']
    ++ all_stop OutOfRange (
    one FoldMultiply (tuple_of (minus 1 ∷ quoted (codes "a") ∷ []))
    ∷ [])

-- texts of values
abbrev pub text_rows : List Row
text_rows =
    -- print(str 'it''s', str ['a', 'it''s'], #str {1}, str -5, str true, str newat, #str '');
    writes 1 (
    one Str (quoted (codes "it's"))
    ∷ one Str (tuple_of (quoted (codes "a") ∷ quoted (codes "it's") ∷ []))
    ∷ one Size (one Str (enumeration (1 ∷ [])))
    ∷ one Str (minus 5)
    ∷ one Str yes
    ∷ one Str Newat
    ∷ one Size (one Str (quoted (codes "")))
    ∷ []) (codes "it's ['a' 'it''s'] 3 -5 true #1 0")
    -- print(om, true, -7, newat, 'it''s', ['it''s', om, ''], {'a', {}, []}, '*');
    ∷ writes 1 (
    Undefined
    ∷ yes
    ∷ minus 7
    ∷ Newat
    ∷ quoted (codes "it's")
    ∷ tuple_of (quoted (codes "it's") ∷ Undefined ∷ quoted (codes "") ∷ [])
    ∷ set_of (quoted (codes "a") ∷ set_of [] ∷ tuple_of [] ∷ [])
    ∷ quoted (codes "*")
    ∷ []) (codes "* true -7 #1 it's ['it''s' * ''] {'a' [] {}} *")
    -- print(); print(''); print('', ''); print(om);
    ∷ does 0 (just (on_line 2 (print [] ∷ print (quoted (codes "") ∷ []) ∷ print (quoted (codes "") ∷ quoted (codes "")
    ∷ []) ∷ print (Undefined ∷ []) ∷ []))) (codes "\n\n \n*\n")
    -- om: str om
    ∷ all_stop Om (
    one Str Undefined
    ∷ [])
