-- Worked rows of comparisons, kinds and the canonical order.
use Rattle.std.specs.Prelude.{List, [], ◌∷◌, ◌++◌, codes}
use Rattle.setl_operators_table.specs.declared.Operator.TheVariants.{Equal, NotEqual, Below, AtMost, Above, AtLeast, In, NotIn, Subset, Includes, IsInteger, IsString, IsBoolean, IsAtom, IsTuple, IsSet, IsMap}
use Rattle.setl_program.specs.Program.{Undefined, Newat}
use Rattle.setl_model_runs.specs.Events.{Om, Kind}
use Rattle.setl_program.specs.Source.{yes, no, number, quoted, one, two, minus, set_of, tuple_of, enumeration, row_of}
use Rattle.setl_model.specs.Table.{Row, writes, all_stop}

-- `om` equals itself alone, and the `om` at the end of a tuple counts for nothing
abbrev pub equality_rows : List Row
equality_rows =
    -- print(om = om, om = 1, 1 /= om, om /= om, [1, om] = [1], [om, 1] = [om, 1], [om] = []);
    writes 0 (
    two Equal Undefined Undefined
    ∷ two Equal Undefined (number 1)
    ∷ two NotEqual (number 1) Undefined
    ∷ two NotEqual Undefined Undefined
    ∷ two Equal (tuple_of (number 1 ∷ Undefined ∷ [])) (row_of (1 ∷ []))
    ∷ two Equal (tuple_of (Undefined ∷ number 1 ∷ [])) (tuple_of (Undefined ∷ number 1 ∷ []))
    ∷ two Equal (tuple_of (Undefined ∷ [])) (tuple_of [])
    ∷ []) (codes "true false true false true true true")
    -- print({1, 2} = {2, 1, 2}, 1 = true, 1 = '1', '' = [], {} = [], [1, 2] = [2, 1], 'a' = 'A');
    ∷ writes 0 (
    two Equal (enumeration (1 ∷ 2 ∷ [])) (enumeration (2 ∷ 1 ∷ 2 ∷ []))
    ∷ two Equal (number 1) yes
    ∷ two Equal (number 1) (quoted (codes "1"))
    ∷ two Equal (quoted (codes "")) (tuple_of [])
    ∷ two Equal (set_of []) (tuple_of [])
    ∷ two Equal (row_of (1 ∷ 2 ∷ [])) (row_of (2 ∷ 1 ∷ []))
    ∷ two Equal (quoted (codes "a")) (quoted (codes "A"))
    ∷ []) (codes "true false false false false false false")
    ∷ []

-- integers stand by size, strings by their bytes
abbrev pub order_rows : List Row
order_rows =
    -- print(-5 < 3, 3 <= 3, 3 < 3, 4 >= 5, 5 > 4);
    writes 0 (
    two Below (minus 5) (number 3)
    ∷ two AtMost (number 3) (number 3)
    ∷ two Below (number 3) (number 3)
    ∷ two AtLeast (number 4) (number 5)
    ∷ two Above (number 5) (number 4)
    ∷ []) (codes "true true false false true")
    -- print('a' < 'ab', 'b' < 'ab', '' < 'a', 'Z' < 'a', 'b' >= 'b', 'b' > 'ab');
    ∷ writes 0 (
    two Below (quoted (codes "a")) (quoted (codes "ab"))
    ∷ two Below (quoted (codes "b")) (quoted (codes "ab"))
    ∷ two Below (quoted (codes "")) (quoted (codes "a"))
    ∷ two Below (quoted (codes "Z")) (quoted (codes "a"))
    ∷ two AtLeast (quoted (codes "b")) (quoted (codes "b"))
    ∷ two Above (quoted (codes "b")) (quoted (codes "ab"))
    ∷ []) (codes "true false true true true true")
    -- kind: 1 < 'a'; true < false; [1] <= [2]; {} >= {1}; newat > newat
    ∷ all_stop Kind (
    two Below (number 1) (quoted (codes "a"))
    ∷ two Below yes no
    ∷ two AtMost (row_of (1 ∷ [])) (row_of (2 ∷ []))
    ∷ two AtLeast (set_of []) (enumeration (1 ∷ []))
    ∷ two Above Newat Newat
    ∷ [])
    -- om: om < 1; 1 >= om; om <= {}; om > om
    ++ all_stop Om (
    two Below Undefined (number 1)
    ∷ two AtLeast (number 1) Undefined
    ∷ two AtMost Undefined (set_of [])
    ∷ two Above Undefined Undefined
    ∷ [])

-- members and components, subsets
abbrev pub membership_rows : List Row
membership_rows =
    -- print(2 in {1, 2}, 3 notin [1, 3], 1 in [], [1] in {[1]}, 'a' in {'ab'}, 1 notin {});
    writes 0 (
    two In (number 2) (enumeration (1 ∷ 2 ∷ []))
    ∷ two NotIn (number 3) (row_of (1 ∷ 3 ∷ []))
    ∷ two In (number 1) (tuple_of [])
    ∷ two In (row_of (1 ∷ [])) (set_of (row_of (1 ∷ []) ∷ []))
    ∷ two In (quoted (codes "a")) (set_of (quoted (codes "ab") ∷ []))
    ∷ two NotIn (number 1) (set_of [])
    ∷ []) (codes "true false false true false true")
    -- print({1} subset {1, 2}, {} subset {}, {1, 2} incs {2}, {1} incs {1, 2});
    ∷ writes 0 (
    two Subset (enumeration (1 ∷ [])) (enumeration (1 ∷ 2 ∷ []))
    ∷ two Subset (set_of []) (set_of [])
    ∷ two Includes (enumeration (1 ∷ 2 ∷ [])) (enumeration (2 ∷ []))
    ∷ two Includes (enumeration (1 ∷ [])) (enumeration (1 ∷ 2 ∷ []))
    ∷ []) (codes "true true true false")
    -- kind: 'a' in 'abc'; 1 in 1; 'a' notin 'abc'; [1] subset {1}; {1} incs 1
    ∷ all_stop Kind (
    two In (quoted (codes "a")) (quoted (codes "abc"))
    ∷ two In (number 1) (number 1)
    ∷ two NotIn (quoted (codes "a")) (quoted (codes "abc"))
    ∷ two Subset (row_of (1 ∷ [])) (enumeration (1 ∷ []))
    ∷ two Includes (enumeration (1 ∷ [])) (number 1)
    ∷ [])
    -- om: om in [1, om, 2]; 1 in om; om notin {}; om subset {}; {} incs om; om in 1
    ++ all_stop Om (
    two In Undefined (tuple_of (number 1 ∷ Undefined ∷ number 2 ∷ []))
    ∷ two In (number 1) Undefined
    ∷ two NotIn Undefined (set_of [])
    ∷ two Subset Undefined (set_of [])
    ∷ two Includes (set_of []) Undefined
    ∷ two In Undefined (number 1)
    ∷ [])

-- tests of kinds, which take `om` too
abbrev pub kind_rows : List Row
kind_rows =
    -- print(is_integer 1, is_string 'a', is_boolean false, is_atom newat, is_tuple [], is_set {}, is_map {});
    writes 1 (
    one IsInteger (number 1)
    ∷ one IsString (quoted (codes "a"))
    ∷ one IsBoolean no
    ∷ one IsAtom Newat
    ∷ one IsTuple (tuple_of [])
    ∷ one IsSet (set_of [])
    ∷ one IsMap (set_of [])
    ∷ []) (codes "true true true true true true true")
    -- print(is_map {[1, 2]}, is_set {[1, 2]}, is_map {1}, is_map [1, 2], is_map {[1]}, is_map {[om, 2]}, is_map {[1,
    --   2, 3]});
    ∷ writes 0 (
    one IsMap (set_of (row_of (1 ∷ 2 ∷ []) ∷ []))
    ∷ one IsSet (set_of (row_of (1 ∷ 2 ∷ []) ∷ []))
    ∷ one IsMap (enumeration (1 ∷ []))
    ∷ one IsMap (row_of (1 ∷ 2 ∷ []))
    ∷ one IsMap (set_of (row_of (1 ∷ []) ∷ []))
    ∷ one IsMap (set_of (tuple_of (Undefined ∷ number 2 ∷ []) ∷ []))
    ∷ one IsMap (set_of (row_of (1 ∷ 2 ∷ 3 ∷ []) ∷ []))
    ∷ []) (codes "true true false false false false false")
    -- print(is_integer om, is_string om, is_boolean om, is_atom om, is_tuple om, is_set om, is_map om);
    ∷ writes 0 (
    one IsInteger Undefined
    ∷ one IsString Undefined
    ∷ one IsBoolean Undefined
    ∷ one IsAtom Undefined
    ∷ one IsTuple Undefined
    ∷ one IsSet Undefined
    ∷ one IsMap Undefined
    ∷ []) (codes "false false false false false false false")
    -- print(is_integer true, is_string 1, is_boolean 'a', is_atom 1, is_tuple {}, is_set []);
    ∷ writes 0 (
    one IsInteger yes
    ∷ one IsString (number 1)
    ∷ one IsBoolean (quoted (codes "a"))
    ∷ one IsAtom (number 1)
    ∷ one IsTuple (set_of [])
    ∷ one IsSet (tuple_of [])
    ∷ []) (codes "false false false false false false")
    ∷ []

-- the kinds in their order, `om` as the least component, and a proper prefix first
abbrev pub canonical_rows : List Row
canonical_rows =
    -- print({'b', 2, true, [1], {}, 'a', -1, false, [], [om, 1], {1}, newat, [1, 2], 'ab'});
    writes 1 (
    set_of (quoted (codes "b") ∷ number 2 ∷ yes ∷ row_of (1 ∷ []) ∷ set_of [] ∷ quoted (codes "a") ∷ minus 1 ∷ no
    ∷ tuple_of [] ∷ tuple_of (Undefined ∷ number 1 ∷ []) ∷ enumeration (1 ∷ []) ∷ Newat ∷ row_of (1 ∷ 2 ∷ [])
    ∷ quoted (codes "ab") ∷ [])
    ∷ []) (codes "{false true -1 2 'a' 'ab' 'b' #1 [] [* 1] [1] [1 2] {} {1}}")
    -- print({{2}, {1, 3}, {1}, {1, 2}, {}});
    ∷ writes 0 (
    set_of (enumeration (2 ∷ []) ∷ enumeration (1 ∷ 3 ∷ []) ∷ enumeration (1 ∷ []) ∷ enumeration (1 ∷ 2 ∷ [])
    ∷ set_of [] ∷ [])
    ∷ []) (codes "{{} {1} {1 2} {1 3} {2}}")
    ∷ []
