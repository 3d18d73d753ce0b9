-- Worked rows of maps.
use Rattle.std.specs.Prelude.{List, [], ◌∷◌, ◌++◌, codes}
use Rattle.setl_operators_table.specs.declared.Operator.TheVariants.{Lessf, Domain, Range}
use Rattle.setl_program.specs.Program.{Undefined, Name, no_stmt}
use Rattle.setl_model_runs.specs.Events.{Om, Kind, Deep, Stopped, Spent, Range as OutOfRange}
use Rattle.setl_program.specs.Source.{f, t, number, quoted, one, two, minus, set_of, tuple_of, enumeration, row_of, at_round, at_brace, assign, put, put_brace, print, on_line, at, lines_from, just, deepest, nearly}
use Rattle.setl_model.specs.Table.{Row, writes, all_stop, does, ends, all_end}

-- images, domains and ranges of images
abbrev pub map_rows : List Row
map_rows =
    -- f := {[1, 2], [1, 3], [2, 5]};
    -- print(f(1), f{1}, f(2), f{9}, f(9));
    -- print(domain f, range f, f lessf 1, f lessf 9);
    does 9 (just (lines_from 2 (assign f (set_of (row_of (1 ∷ 2 ∷ []) ∷ row_of (1 ∷ 3 ∷ []) ∷ row_of (2 ∷ 5 ∷ [])
    ∷ [])) ∷ print (at_round (Name f) (number 1) ∷ at_brace (Name f) (number 1) ∷ at_round (Name f) (number 2)
    ∷ at_brace (Name f) (number 9) ∷ at_round (Name f) (number 9) ∷ []) ∷ print (one Domain (Name f) ∷ one Range
    (Name f) ∷ two Lessf (Name f) (number 1) ∷ two Lessf (Name f) (number 9) ∷ []) ∷ [])))
    (codes "* {2 3} 5 {} *\n{1 2} {2 3 5} {[2 5]} {[1 2] [1 3] [2 5]}\n")
    -- print(domain {}, range {}, {}(1), {}{1}, {} lessf 1);
    ∷ writes 0 (
    one Domain (set_of [])
    ∷ one Range (set_of [])
    ∷ at_round (set_of []) (number 1)
    ∷ at_brace (set_of []) (number 1)
    ∷ two Lessf (set_of []) (number 1)
    ∷ []) (codes "{} {} * {} {}")
    -- print({[[1, 2], 3]}(1, 2), {[[1], 5]}(1, om), {[[1, 2], 3]}{1, 2}, {[[], 4]}(om, om));
    ∷ writes 0 (
    at_round (set_of (tuple_of (row_of (1 ∷ 2 ∷ []) ∷ number 3 ∷ []) ∷ [])) (tuple_of (number 1 ∷ number 2 ∷ []))
    ∷ at_round (set_of (tuple_of (row_of (1 ∷ []) ∷ number 5 ∷ []) ∷ [])) (tuple_of (number 1 ∷ Undefined ∷ []))
    ∷ at_brace (set_of (tuple_of (row_of (1 ∷ 2 ∷ []) ∷ number 3 ∷ []) ∷ [])) (tuple_of (number 1 ∷ number 2
    ∷ []))
    ∷ at_round (set_of (tuple_of (tuple_of [] ∷ number 4 ∷ []) ∷ [])) (tuple_of (Undefined ∷ Undefined ∷ []))
    ∷ []) (codes "3 5 {3} 4")
    -- kind: domain {1}; range {[1]}; {1} lessf 1; {1}(1); {1}{1}; [1]{1}; 'a'{1}; 1{1}; domain [1]; {[1, 2], 3}(1); 1
    --   lessf 1; range 'a'; {[om, 2]}(2)
    ∷ all_stop Kind (
    one Domain (enumeration (1 ∷ []))
    ∷ one Range (set_of (row_of (1 ∷ []) ∷ []))
    ∷ two Lessf (enumeration (1 ∷ [])) (number 1)
    ∷ at_round (enumeration (1 ∷ [])) (number 1)
    ∷ at_brace (enumeration (1 ∷ [])) (number 1)
    ∷ at_brace (row_of (1 ∷ [])) (number 1)
    ∷ at_brace (quoted (codes "a")) (number 1)
    ∷ at_brace (number 1) (number 1)
    ∷ one Domain (row_of (1 ∷ []))
    ∷ at_round (set_of (row_of (1 ∷ 2 ∷ []) ∷ number 3 ∷ [])) (number 1)
    ∷ two Lessf (number 1) (number 1)
    ∷ one Range (quoted (codes "a"))
    ∷ at_round (set_of (tuple_of (Undefined ∷ number 2 ∷ []) ∷ [])) (number 2)
    ∷ [])
    -- om: domain om; range om; {}(om); {}{om}; om{1}; {1}(om); 1{om}; {} lessf om; om lessf 1
    ++ all_stop Om (
    one Domain Undefined
    ∷ one Range Undefined
    ∷ at_round (set_of []) Undefined
    ∷ at_brace (set_of []) Undefined
    ∷ at_brace Undefined (number 1)
    ∷ at_round (enumeration (1 ∷ [])) Undefined
    ∷ at_brace (number 1) Undefined
    ∷ two Lessf (set_of []) Undefined
    ∷ two Lessf Undefined (number 1)
    ∷ [])

-- the images of a point are replaced
abbrev pub put_rows : List Row
put_rows =
    -- f := {[1, 2], [1, 3], [2, 5]};
    -- f(1) := 9; print(f); f(2) := om; print(f); f(7) := om; print(f);
    -- f{1} := {4, 5}; print(f); f{1} := {}; print(f); f(1, 2) := 3; print(f);
    does 0 (just (at 2 (assign f (set_of (row_of (1 ∷ 2 ∷ []) ∷ row_of (1 ∷ 3 ∷ []) ∷ row_of (2 ∷ 5 ∷ []) ∷ [])))
    (at 3 (put f (number 1) (number 9)) (at 3 (print (Name f ∷ [])) (at 3 (put f (number 2) Undefined) (at 3
    (print (Name f ∷ [])) (at 3 (put f (number 7) Undefined) (at 3 (print (Name f ∷ [])) (at 4 (put_brace f
    (number 1) (enumeration (4 ∷ 5 ∷ []))) (at 4 (print (Name f ∷ [])) (at 4 (put_brace f (number 1) (set_of []))
    (at 4 (print (Name f ∷ [])) (at 4 (put f (tuple_of (number 1 ∷ number 2 ∷ [])) (number 3)) (at 4 (print
    (Name f ∷ [])) no_stmt))))))))))))))
    (codes "{[1 9] [2 5]}\n{[1 9]}\n{[1 9]}\n{[1 4] [1 5]}\n{}\n{[[1 2] 3]}\n")
    -- nothing deeper is made:
    -- f := {};
    -- f(deepest) := om; print(f); f{deepest} := {}; print(f); f(1) := om; print(f(deepest), f{deepest});
    ∷ does 0 (just (at 2 (assign f (set_of [])) (at 3 (put f deepest Undefined) (at 3 (print (Name f ∷ [])) (at 3
    (put_brace f deepest (set_of [])) (at 3 (print (Name f ∷ [])) (at 3 (put f (number 1) Undefined) (at 3 (print
    (at_round (Name f) deepest ∷ at_brace (Name f) deepest ∷ [])) no_stmt)))))))) (codes "{}\n{}\n* {}\n")
    -- deep 3:
    -- f := {};
    -- f(1) := deepest;
    -- f := {};
    -- f(deepest) := 1;
    -- f := {};
    -- f{1} := deepest;
    -- f := {};
    -- f(1) := nearly;
    -- t := [];
    -- t(1) := deepest;
    ∷ all_end (Stopped Deep 3) (
    just (lines_from 2 (assign f (set_of []) ∷ put f (number 1) deepest ∷ []))
    ∷ just (lines_from 2 (assign f (set_of []) ∷ put f deepest (number 1) ∷ []))
    ∷ just (lines_from 2 (assign f (set_of []) ∷ put_brace f (number 1) deepest ∷ []))
    ∷ just (lines_from 2 (assign f (set_of []) ∷ put f (number 1) nearly ∷ []))
    ∷ just (lines_from 2 (assign t (tuple_of []) ∷ put t (number 1) deepest ∷ []))
    ∷ [])
    -- kind 3:
    -- f := {1};
    -- f(1) := 2;
    -- f := {1};
    -- f(1) := om;
    -- f := {1};
    -- f{1} := {};
    -- f := {};
    -- f{1} := 2;
    -- f := {};
    -- f{1} := [2];
    -- f := 1;
    -- f(1) := om;
    -- f := [1];
    -- f{1} := {2};
    -- f := 'ab';
    -- f(1) := 'x';
    -- f := 'ab';
    -- f(0) := 'x';
    -- f := [1];
    -- f('a') := 1;
    ++ all_end (Stopped Kind 3) (
    just (lines_from 2 (assign f (enumeration (1 ∷ [])) ∷ put f (number 1) (number 2) ∷ []))
    ∷ just (lines_from 2 (assign f (enumeration (1 ∷ [])) ∷ put f (number 1) Undefined ∷ []))
    ∷ just (lines_from 2 (assign f (enumeration (1 ∷ [])) ∷ put_brace f (number 1) (set_of []) ∷ []))
    ∷ just (lines_from 2 (assign f (set_of []) ∷ put_brace f (number 1) (number 2) ∷ []))
    ∷ just (lines_from 2 (assign f (set_of []) ∷ put_brace f (number 1) (row_of (2 ∷ [])) ∷ []))
    ∷ just (lines_from 2 (assign f (number 1) ∷ put f (number 1) Undefined ∷ []))
    ∷ just (lines_from 2 (assign f (row_of (1 ∷ [])) ∷ put_brace f (number 1) (enumeration (2 ∷ [])) ∷ []))
    ∷ just (lines_from 2 (assign f (quoted (codes "ab")) ∷ put f (number 1) (quoted (codes "x")) ∷ []))
    ∷ just (lines_from 2 (assign f (quoted (codes "ab")) ∷ put f (number 0) (quoted (codes "x")) ∷ []))
    ∷ just (lines_from 2 (assign f (row_of (1 ∷ [])) ∷ put f (quoted (codes "a")) (number 1) ∷ []))
    ∷ [])
    -- om 3:
    -- f := om;
    -- f(1) := 2;
    -- f := {1};
    -- f(om) := 1;
    -- f := {};
    -- f{1} := om;
    -- f := {};
    -- f{om} := {};
    -- f := 1;
    -- f{1} := om;
    -- f := om;
    -- f(1) := om;
    -- f := 1;
    -- f(om) := om;
    ++ all_end (Stopped Om 3) (
    just (lines_from 2 (assign f Undefined ∷ put f (number 1) (number 2) ∷ []))
    ∷ just (lines_from 2 (assign f (enumeration (1 ∷ [])) ∷ put f Undefined (number 1) ∷ []))
    ∷ just (lines_from 2 (assign f (set_of []) ∷ put_brace f (number 1) Undefined ∷ []))
    ∷ just (lines_from 2 (assign f (set_of []) ∷ put_brace f Undefined (set_of []) ∷ []))
    ∷ just (lines_from 2 (assign f (number 1) ∷ put_brace f (number 1) Undefined ∷ []))
    ∷ just (lines_from 2 (assign f Undefined ∷ put f (number 1) Undefined ∷ []))
    ∷ just (lines_from 2 (assign f (number 1) ∷ put f Undefined Undefined ∷ []))
    ∷ [])

-- a put past the end of a tuple charges a turn for each `om` between; a put of `om` there does nothing
abbrev pub tuple_put_rows : List Row
tuple_put_rows =
    -- t := [1];
    -- t(3) := 9; print(t); t(3) := om; print(t); t(1) := om; print(t); t(5) := om; print(t); t(1) := 7; t(2) := 8;
    --   print(t);
    does 1 (just (at 2 (assign t (row_of (1 ∷ []))) (at 3 (put t (number 3) (number 9)) (at 3 (print (Name t ∷ []))
    (at 3 (put t (number 3) Undefined) (at 3 (print (Name t ∷ [])) (at 3 (put t (number 1) Undefined) (at 3 (print
    (Name t ∷ [])) (at 3 (put t (number 5) Undefined) (at 3 (print (Name t ∷ [])) (at 3 (put t (number 1)
    (number 7)) (at 3 (put t (number 2) (number 8)) (at 3 (print (Name t ∷ [])) no_stmt)))))))))))))
    (codes "[1 * 9]\n[1]\n[]\n[]\n[7 8]\n")
    -- t := [1];
    -- t(3) := 9;
    -- with 0 turns
    ∷ ends Spent 0 (just (lines_from 2 (assign t (row_of (1 ∷ [])) ∷ put t (number 3) (number 9) ∷ []))) []
    -- t := []; t(4) := 1; print(t);
    ∷ does 3 (just (on_line 2 (assign t (tuple_of []) ∷ put t (number 4) (number 1) ∷ print (Name t ∷ []) ∷ [])))
    (codes "[* * * 1]\n")
    -- t := []; t(4) := 1; print(t);
    -- with 2 turns
    ∷ ends Spent 2 (just (on_line 2 (assign t (tuple_of []) ∷ put t (number 4) (number 1) ∷ print (Name t ∷ [])
    ∷ []))) []
    -- range 3:
    -- t := [1];
    -- t(0) := 1;
    -- t := [1];
    -- t(0) := om;
    -- t := [];
    -- t(-1) := 1;
    ∷ all_end (Stopped OutOfRange 3) (
    just (lines_from 2 (assign t (row_of (1 ∷ [])) ∷ put t (number 0) (number 1) ∷ []))
    ∷ just (lines_from 2 (assign t (row_of (1 ∷ [])) ∷ put t (number 0) Undefined ∷ []))
    ∷ just (lines_from 2 (assign t (tuple_of []) ∷ put t (minus 1) (number 1) ∷ []))
    ∷ [])
