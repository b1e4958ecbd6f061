-- A checked file read in pieces: what its lines leave, one line more, and what is printed where the input ends. The code is equated with these definitions.
-- Assumes nothing.
use Rattle.std.specs.Prelude.{ℕ, ◌+◌, cond, [], eqb}
use Rattle.memory.specs.declared.Report.{Report}
use Rattle.memory.specs.declared.State.{State}
use Rattle.memory.specs.declared.Stand.{Stand}
use Rattle.memory.specs.Bytes.{Line}
use Rattle.memory.specs.Names.{value_names, row_names}
use Rattle.memory.specs.File.{refused, parse_values, names_fault}
use Rattle.memory.specs.Step.{takes_rows, refused_state, opened_of, row_of, end_of, report_of}
use Rattle.memory.specs.Pieces.{Piece, piece, end_in}

-- between two lines: the number of the next line, 4 for all rows, and the checker's state
unfoldable pub stand : ℕ → State → Stand
stand k s = record { place = k; state = s }

-- line 1 and line 3, by the fault of their names: the next line follows, or the file is refused on this one
unfoldable pub names_read : ℕ → State → ℕ → Stand
names_read k s f = cond (eqb f 0) (stand (k + 1) s) (stand 4 (refused_state f k))

-- line 3 where the value line was refused: the file keeps that answer
unfoldable pub row_names_read : State → Line → Stand
row_names_read s line = cond (takes_rows s.context) (names_read 3 s (names_fault row_names line)) (stand 4 s)

-- any line: line 1, the value line, line 3, and the rows
unfoldable pub line_of : ℕ → Stand → Line → Stand
line_of q v line =
    cond (eqb v.place 1) (names_read 1 v.state (names_fault value_names line))
    (cond (eqb v.place 2) (stand 3 (opened_of q (parse_values q line)))
    (cond (eqb v.place 3) (row_names_read v.state line)
    (stand 4 (row_of q v.state line))))

-- what is printed where the lines end in this place: 1 for an empty file, 7 for a missing line 2 or 3
unfoldable pub end_report : Stand → Report
end_report v =
    cond (eqb v.place 1) (refused 1 1)
    (cond (eqb v.place 2) (refused 7 2)
    (cond (eqb v.place 3) (cond (takes_rows v.state.context) (refused 7 3) (report_of v.state))
    (report_of (end_of v.state))))

-- no line is read yet; the state stands for none
unfoldable pub unopened : Stand
unopened = stand 1 (refused_state 1 1)

-- before the first byte
unfoldable pub unread : Piece Stand
unread = piece unopened []

-- what is printed where the input ends
unfoldable pub finish_of : ℕ → Piece Stand → Report
finish_of q v = end_report (end_in (line_of q) v)
