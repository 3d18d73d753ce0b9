-- Worked rows of reading.
use Rattle.std.specs.Prelude.{List, [], ◌∷◌, ◌++◌, replicate, codes}
use Rattle.setl_operators_table.specs.declared.Operator.TheVariants.{Size, IsTuple}
use Rattle.setl_program.specs.Program.{Name, Eof, Read, no_stmt}
use Rattle.setl_model_runs.specs.Events.{Form, Wide, Deep, Done, Stopped}
use Rattle.setl_program.specs.Source.{x, y, z, number, one, assign, print, on_line, at, lines_from, just}
use Rattle.setl_model.specs.Table.{Row, reads}

-- one denotation for each variable
abbrev pub reading_rows : List Row
reading_rows =
    -- read(x, y, z);
    -- print(x, y, z);
    reads (codes "{1 [2 'a']} 7\n") 0 (just (lines_from 2 (Read (x ∷ y ∷ z ∷ []) ∷ print (Name x ∷ Name y ∷ Name z
    ∷ []) ∷ []))) (codes "{1 [2 'a']} 7 *\n") Done
    -- read(x, y, z);
    -- print(x, y, z);
    ∷ reads (codes "12 -3 'it''s'") 0 (just (lines_from 2 (Read (x ∷ y ∷ z ∷ []) ∷ print (Name x ∷ Name y ∷ Name z ∷ [])
    ∷ []))) (codes "12 -3 it's\n") Done
    -- read(x, y, z);
    -- print(x, y, z);
    ∷ reads (codes "TRUE\nfalse*") 0 (just (lines_from 2 (Read (x ∷ y ∷ z ∷ []) ∷ print (Name x ∷ Name y ∷ Name z ∷ [])
    ∷ []))) (codes "true false *\n") Done
    -- read(x, y, z);
    -- print(x, y, z);
    ∷ reads (codes "{1,1 2} [1,*,2,*] {}") 0 (just (lines_from 2 (Read (x ∷ y ∷ z ∷ []) ∷ print (Name x ∷ Name y
    ∷ Name z ∷ []) ∷ []))) (codes "{1 2} [1 * 2] {}\n") Done
    -- read(x, y, z);
    -- print(x, y, z);
    ∷ reads (codes "12true[]") 0 (just (lines_from 2 (Read (x ∷ y ∷ z ∷ []) ∷ print (Name x ∷ Name y ∷ Name z ∷ [])
    ∷ []))) (codes "12 true []\n") Done
    -- read(x, y, z);
    -- print(x, y, z);
    ∷ reads (codes "true1'a'") 0 (just (lines_from 2 (Read (x ∷ y ∷ z ∷ []) ∷ print (Name x ∷ Name y ∷ Name z ∷ [])
    ∷ []))) (codes "true 1 a\n") Done
    -- read(x, y, z);
    -- print(x, y, z);
    ∷ reads (codes "{,,1,}[,]''") 0 (just (lines_from 2 (Read (x ∷ y ∷ z ∷ []) ∷ print (Name x ∷ Name y ∷ Name z ∷ [])
    ∷ []))) (codes "{1} [] \n") Done
    -- read(x, y, z);
    -- print(x, y, z);
    ∷ reads (codes "-0 007{[true]{}'b'}") 0 (just (lines_from 2 (Read (x ∷ y ∷ z ∷ []) ∷ print (Name x ∷ Name y ∷ Name z
    ∷ []) ∷ []))) (codes "0 7 {'b' [true] {}}\n") Done
    -- read(x, y);
    -- print(x, y);
    ∷ reads (codes "{{2}{1}}[[*]]") 0 (just (lines_from 2 (Read (x ∷ y ∷ []) ∷ print (Name x ∷ Name y ∷ []) ∷ [])))
    (codes "{{1} {2}} [[]]\n") Done
    -- read(x, y);
    -- print(x, y);
    ∷ reads (codes "170141183460469231731687303715884105727-170141183460469231731687303715884105728") 0 (just
    (lines_from 2 (Read (x ∷ y ∷ []) ∷ print (Name x ∷ Name y ∷ []) ∷ [])))
    (codes "170141183460469231731687303715884105727 -170141183460469231731687303715884105728\n") Done
    -- read(x);
    -- print(x);
    ∷ reads (codes "0000000000000000000000000000000000000000000001") 0 (just (lines_from 2 (Read (x ∷ []) ∷ print
    (Name x ∷ []) ∷ []))) (codes "1\n") Done
    -- read(x);
    -- print(x);
    ∷ reads (codes "'a' 'b") 0 (just (lines_from 2 (Read (x ∷ []) ∷ print (Name x ∷ []) ∷ []))) (codes "a\n") Done
    -- read(x); print(#x, is_tuple x);
    ∷ reads (replicate 500 91 ++ replicate 500 93) 0 (just (on_line 2 (Read (x ∷ []) ∷ print (one Size (Name x)
    ∷ one IsTuple (Name x) ∷ []) ∷ []))) (codes "1 true\n") Done
    ∷ []

-- `eof` is false until a `read` meets the end
abbrev pub eof_rows : List Row
eof_rows =
    -- print(eof); read(x); print(x, eof);
    -- read(y); print(y, eof); read(z); print(z, eof);
    reads (codes "7 ") 0 (just (at 2 (print (Eof ∷ [])) (at 2 (Read (x ∷ [])) (at 2 (print (Name x ∷ Eof ∷ [])) (at 3
    (Read (y ∷ [])) (at 3 (print (Name y ∷ Eof ∷ [])) (at 3 (Read (z ∷ [])) (at 3 (print (Name z ∷ Eof
    ∷ [])) no_stmt)))))))) (codes "false\n7 false\n* true\n* true\n") Done
    -- x := 1; read(x); print(x, eof);
    ∷ reads [] 0 (just (on_line 2 (assign x (number 1) ∷ Read (x ∷ []) ∷ print (Name x ∷ Eof ∷ []) ∷ [])))
    (codes "* true\n") Done
    -- read(x); print(x, eof);
    ∷ reads (codes " \n\n  ") 0 (just (on_line 2 (Read (x ∷ []) ∷ print (Name x ∷ Eof ∷ []) ∷ [])))
    (codes "* true\n") Done
    ∷ []

-- the first cause by place
abbrev pub reading_stops : List Row
reading_stops =
    -- read(x);
    -- print(x);
    reads (codes "{1 [2") 0 (just (lines_from 2 (Read (x ∷ []) ∷ print (Name x ∷ []) ∷ []))) [] (Stopped Form 2)
    -- read(x);
    -- print(x);
    ∷ reads (codes "{*}") 0 (just (lines_from 2 (Read (x ∷ []) ∷ print (Name x ∷ []) ∷ []))) [] (Stopped Form 2)
    -- read(x);
    -- print(x);
    ∷ reads (codes "{1]") 0 (just (lines_from 2 (Read (x ∷ []) ∷ print (Name x ∷ []) ∷ []))) [] (Stopped Form 2)
    -- read(x);
    -- print(x);
    ∷ reads (codes "]") 0 (just (lines_from 2 (Read (x ∷ []) ∷ print (Name x ∷ []) ∷ []))) [] (Stopped Form 2)
    -- read(x);
    -- print(x);
    ∷ reads (codes "truefalse") 0 (just (lines_from 2 (Read (x ∷ []) ∷ print (Name x ∷ []) ∷ []))) [] (Stopped Form 2)
    -- read(x);
    -- print(x);
    ∷ reads (codes "'a") 0 (just (lines_from 2 (Read (x ∷ []) ∷ print (Name x ∷ []) ∷ []))) [] (Stopped Form 2)
    -- read(x);
    -- print(x);
    ∷ reads (codes "'a\n'") 0 (just (lines_from 2 (Read (x ∷ []) ∷ print (Name x ∷ []) ∷ []))) [] (Stopped Form 2)
    -- read(x);
    -- print(x);
    ∷ reads (codes "- 1") 0 (just (lines_from 2 (Read (x ∷ []) ∷ print (Name x ∷ []) ∷ []))) [] (Stopped Form 2)
    -- read(x);
    -- print(x);
    ∷ reads (codes "-") 0 (just (lines_from 2 (Read (x ∷ []) ∷ print (Name x ∷ []) ∷ []))) [] (Stopped Form 2)
    -- read(x);
    -- print(x);
    ∷ reads (codes "tru") 0 (just (lines_from 2 (Read (x ∷ []) ∷ print (Name x ∷ []) ∷ []))) [] (Stopped Form 2)
    -- read(x);
    -- print(x);
    ∷ reads (codes ",1") 0 (just (lines_from 2 (Read (x ∷ []) ∷ print (Name x ∷ []) ∷ []))) [] (Stopped Form 2)
    -- read(x);
    -- print(x);
    ∷ reads (codes "$1") 0 (just (lines_from 2 (Read (x ∷ []) ∷ print (Name x ∷ []) ∷ []))) [] (Stopped Form 2)
    -- read(x);
    -- print(x);
    ∷ reads (codes "#1") 0 (just (lines_from 2 (Read (x ∷ []) ∷ print (Name x ∷ []) ∷ []))) [] (Stopped Form 2)
    -- read(x);
    -- print(x);
    ∷ reads (codes "--1") 0 (just (lines_from 2 (Read (x ∷ []) ∷ print (Name x ∷ []) ∷ []))) [] (Stopped Form 2)
    -- read(x);
    -- print(x);
    ∷ reads (codes "[1") 0 (just (lines_from 2 (Read (x ∷ []) ∷ print (Name x ∷ []) ∷ []))) [] (Stopped Form 2)
    -- read(x);
    -- print(x);
    ∷ reads (codes "[}") 0 (just (lines_from 2 (Read (x ∷ []) ∷ print (Name x ∷ []) ∷ []))) [] (Stopped Form 2)
    -- read(x);
    -- print(x);
    ∷ reads (codes "om") 0 (just (lines_from 2 (Read (x ∷ []) ∷ print (Name x ∷ []) ∷ []))) [] (Stopped Form 2)
    -- read(x);
    -- print(x);
    ∷ reads (codes "[1,om]") 0 (just (lines_from 2 (Read (x ∷ []) ∷ print (Name x ∷ []) ∷ []))) [] (Stopped Form 2)
    -- read(x);
    -- print(x);
    ∷ reads (codes "'a''") 0 (just (lines_from 2 (Read (x ∷ []) ∷ print (Name x ∷ []) ∷ []))) [] (Stopped Form 2)
    -- read(x, y);
    -- print(x, y);
    ∷ reads (codes "1.5") 0 (just (lines_from 2 (Read (x ∷ y ∷ []) ∷ print (Name x ∷ Name y ∷ []) ∷ []))) []
    (Stopped Form 2)
    -- read(x, y);
    -- print(x, y);
    ∷ reads (codes "{1},2") 0 (just (lines_from 2 (Read (x ∷ y ∷ []) ∷ print (Name x ∷ Name y ∷ []) ∷ []))) []
    (Stopped Form 2)
    -- read(x);
    -- print(x);
    ∷ reads (codes "170141183460469231731687303715884105728") 0 (just (lines_from 2 (Read (x ∷ []) ∷ print (Name x ∷ [])
    ∷ []))) [] (Stopped Wide 2)
    -- read(x);
    -- print(x);
    ∷ reads (codes "-170141183460469231731687303715884105729") 0 (just (lines_from 2 (Read (x ∷ []) ∷ print (Name x
    ∷ []) ∷ []))) [] (Stopped Wide 2)
    -- read(x);
    -- print(x);
    ∷ reads (codes "[170141183460469231731687303715884105728") 0 (just (lines_from 2 (Read (x ∷ []) ∷ print (Name x
    ∷ []) ∷ []))) [] (Stopped Wide 2)
    -- read(x);
    -- print(x);
    ∷ reads (codes "{170141183460469231731687303715884105728 *}") 0 (just (lines_from 2 (Read (x ∷ []) ∷ print (Name x
    ∷ []) ∷ []))) [] (Stopped Wide 2)
    -- read(x);
    -- print(x);
    ∷ reads (codes "{* 170141183460469231731687303715884105728}") 0 (just (lines_from 2 (Read (x ∷ []) ∷ print (Name x
    ∷ []) ∷ []))) [] (Stopped Form 2)
    -- read(x, y);
    -- print(x, y);
    ∷ reads (codes "['a'] 170141183460469231731687303715884105728") 0 (just (lines_from 2 (Read (x ∷ y ∷ []) ∷ print
    (Name x ∷ Name y ∷ []) ∷ []))) [] (Stopped Wide 2)
    -- read(x);
    -- print(x);
    ∷ reads (replicate 501 91) 0 (just (lines_from 2 (Read (x ∷ []) ∷ print (Name x ∷ []) ∷ []))) [] (Stopped Deep 2)
    -- read(x);
    -- print(x);
    ∷ reads (replicate 500 123) 0 (just (lines_from 2 (Read (x ∷ []) ∷ print (Name x ∷ []) ∷ []))) [] (Stopped Form 2)
    -- read(x);
    -- print(x);
    ∷ reads (replicate 500 123 ++ replicate 501 91) 0 (just (lines_from 2 (Read (x ∷ []) ∷ print (Name x ∷ [])
    ∷ []))) [] (Stopped Deep 2)
    -- read(x);
    -- print(x);
    ∷ reads (replicate 500 91 ++ codes "170141183460469231731687303715884105728[") 0 (just (lines_from 2 (Read (x ∷ [])
    ∷ print (Name x ∷ []) ∷ []))) [] (Stopped Wide 2)
    ∷ []
