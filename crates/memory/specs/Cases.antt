-- The cases of document 01 that it marks P, a rom, and ages that wrap: files and what is printed
-- for each.
-- Assumes nothing.
use Rattle.std.specs.Prelude.{ℕ, ◌≡◌, Bool, true, false, ◌&&◌, List, [], ◌∷◌, ◌++◌, T, get_or, drop}
use Prim.Native.String.{String}
use Rattle.field.specs.Field.{p}
use Rattle.memory.specs.declared.Memory.TheVariants.{Ram}
use Rattle.memory.specs.declared.Row.{Row}
use Rattle.memory.specs.Text.{bytes}
use Rattle.memory.specs.Bytes.{Line, same, feed, lines_of}
use Rattle.memory.specs.Names.{report_names}
use Rattle.memory.specs.Equations.{product, file_lists}
use Rattle.memory.specs.File.{head_lines, rows_of, parse_rows, Opening, opens, shut, parse_values, file_report}
use Rattle.memory.specs.Bound.{accepts, challenge}
use Rattle.memory.specs.Print.{report_text}

-- A file, and the second line that is printed for it: answer, line, inputs, multiplications
pub record Case : Type 0 where
  pub file : String
  pub printed : String

unfoldable pub case : String → String → Case
case f l = record { file = f; printed = l }

-- the ram of section "Files"
unfoldable pub ram_case : Case
ram_case =
    case "memory,size,count,r,a,b,c\nram,2,2,100,1,2,3\nop,guard,addr,value,old,time,version\ninit,0,0,5,0,0,0\ninit,0,0,9,0,0,0\naccess,1,0,7,5,0,0\naccess,0,0,0,7,1,1\nend,0,0,0,7,2,0\nend,0,0,0,9,0,0\nrange,0,0,0,0,0,2\nrange,0,0,0,0,0,0\n" "0,0,12,16"

-- "line 7's old made 5"
unfoldable pub changed_case : Case
changed_case =
    case "memory,size,count,r,a,b,c\nram,2,2,100,1,2,3\nop,guard,addr,value,old,time,version\ninit,0,0,5,0,0,0\ninit,0,0,9,0,0,0\naccess,1,0,7,5,0,0\naccess,0,0,0,5,1,1\nend,0,0,0,7,2,0\nend,0,0,0,9,0,0\nrange,0,0,0,0,0,2\nrange,0,0,0,0,0,0\n" "10,11,0,0"

unfoldable pub cases : List Case
cases =
    ram_case
    ∷ changed_case
    -- with challenge 100,0,0,0 as well: one of the counted challenges
    ∷ case "memory,size,count,r,a,b,c\nram,2,2,100,0,0,0\nop,guard,addr,value,old,time,version\ninit,0,0,5,0,0,0\ninit,0,0,9,0,0,0\naccess,1,0,7,5,0,0\naccess,0,0,0,5,1,1\nend,0,0,0,7,2,0\nend,0,0,0,9,0,0\nrange,0,0,0,0,0,2\nrange,0,0,0,0,0,0\n" "0,0,12,16"
    -- stack: a pop on an empty stack that reads the push after it
    ∷ case "memory,size,count,r,a,b,c\nstack,0,2,100,1,2,3\nop,guard,addr,value,old,time,version\npop,1,0,0,8,1,0\npush,1,0,8,0,0,0\nrange,0,0,0,0,0,0\nrange,0,0,0,0,0,0\n" "9,7,0,0"
    -- stack: a skipped pop whose age, clock 1 less time p − 1, wraps to 2, of which document 01 has
    -- no case
    ∷ case "memory,size,count,r,a,b,c\nstack,0,2,100,1,2,3\nop,guard,addr,value,old,time,version\npop,0,0,0,0,2147483646,0\npush,0,0,0,0,0,0\nrange,0,0,0,0,0,0\nrange,0,0,0,0,0,1\n" "0,0,5,8"
    -- ram: a load whose age wraps in the same way: the range balances, and the memory does not
    ∷ case "memory,size,count,r,a,b,c\nram,1,2,100,1,2,3\nop,guard,addr,value,old,time,version\ninit,0,0,5,0,0,0\naccess,0,0,0,5,2147483646,0\naccess,0,0,0,5,1,0\nend,0,0,0,5,2,0\nrange,0,0,0,0,0,1\nrange,0,0,0,0,0,1\n" "10,9,0,0"
    -- queue: enqueue 4, enqueue 6, dequeue 4, end 6
    ∷ case "memory,size,count,r,a,b,c\nqueue,0,3,100,1,2,3\nop,guard,addr,value,old,time,version\nenqueue,1,0,4,0,0,0\nenqueue,1,0,6,0,0,0\ndequeue,1,0,0,4,0,0\nend,0,0,0,6,0,0\n" "0,0,2,8"
    -- queue: enqueue 0, enqueue 5, dequeue 5, end 0
    ∷ case "memory,size,count,r,a,b,c\nqueue,0,3,100,1,2,3\nop,guard,addr,value,old,time,version\nenqueue,1,0,0,0,0,0\nenqueue,1,0,5,0,0,0\ndequeue,1,0,0,5,0,0\nend,0,0,0,0,0,0\n" "10,7,0,0"
    -- queue: dequeue alone
    ∷ case "memory,size,count,r,a,b,c\nqueue,0,1,100,1,2,3\nop,guard,addr,value,old,time,version\ndequeue,1,0,0,4,0,0\n" "8,4,0,0"
    -- set {5}: member 5 at version 0, end value 5 version 1
    ∷ case "memory,size,count,r,a,b,c\nset,1,1,100,1,2,3\nop,guard,addr,value,old,time,version\ninit,0,0,5,0,0,0\nmember,0,0,5,0,0,0\nend,0,0,5,0,0,1\n" "0,0,2,4"
    -- set {5}: member 6 at version 0, end value 5 version 0
    ∷ case "memory,size,count,r,a,b,c\nset,1,1,100,1,2,3\nop,guard,addr,value,old,time,version\ninit,0,0,5,0,0,0\nmember,0,0,6,0,0,0\nend,0,0,5,0,0,0\n" "10,6,0,0"
    -- rom of 5 and 9, of which document 01 has no case: looks at cell 1, at versions 0 and 1
    ∷ case "memory,size,count,r,a,b,c\nrom,2,2,100,1,2,3\nop,guard,addr,value,old,time,version\ninit,0,0,5,0,0,0\ninit,0,0,9,0,0,0\nlook,0,1,0,9,0,0\nlook,0,1,0,9,0,1\nend,0,0,5,0,0,0\nend,0,0,9,0,0,2\n" "0,0,6,8"
    -- ram, size 0, count 0
    ∷ case "memory,size,count,r,a,b,c\nram,0,0,100,1,2,3\nop,guard,addr,value,old,time,version\n" "0,0,0,0"
    -- count 65,536 is read: the first row is missing
    ∷ case "memory,size,count,r,a,b,c\nram,0,65536,100,1,2,3\nop,guard,addr,value,old,time,version\n" "7,4,0,0"
    -- 65,537 is 4
    ∷ case "memory,size,count,r,a,b,c\nram,0,65537,100,1,2,3\nop,guard,addr,value,old,time,version\n" "4,2,0,0"
    -- 2147483646 is read: the end row is missing
    ∷ case "memory,size,count,r,a,b,c\nset,1,0,100,1,2,3\nop,guard,addr,value,old,time,version\ninit,0,0,2147483646,0,0,0\n" "7,5,0,0"
    -- 2147483647 is 3
    ∷ case "memory,size,count,r,a,b,c\nset,1,0,100,1,2,3\nop,guard,addr,value,old,time,version\ninit,0,0,2147483647,0,0,0\n" "3,4,0,0"
    ∷ []

-- what is printed for a case's file: the names, and the case's line
unfoldable pub reported : Case → Bool
reported c = same (report_text (file_report p (bytes c.file))) (report_names ++ feed ∷ bytes c.printed ++ feed ∷ [])

unfoldable pub all_reported : List Case → Bool
all_reported [] = true
all_reported (c ∷ cs) = reported c && all_reported cs

-- The table's one fact. (Cases: cases_hold)
abbrev pub CasesHold : Type 0
CasesHold = T (all_reported cases)

-- "With challenge 100,0,0,0 as well: …, one of the counted challenges.": it accepts the changed rows. (Cases: counted_challenge)
abbrev pub CountedChallenge : Type 0
CountedChallenge = accepts p Ram 2 2 (parse_rows p (drop head_lines (lines_of (bytes changed_case.file)))) (challenge 100 0 0 0) ≡ true

-- the products of a file's lists: of the records written and read, and of the range's pairs written and read
unfoldable pub opened_products : ℕ → Opening → List Row → List ℕ
opened_products q (opens m n t ch) rows =
    let l = file_lists q m n t rows in
    product q ch l.written ∷ product q ch l.read ∷ product q ch l.supplied ∷ product q ch l.looked ∷ []
opened_products q (shut f) rows = []

unfoldable pub products_of : ℕ → List Line → List ℕ
products_of q lines =
    opened_products q (parse_values q (get_or lines 1 (record { text = []; ended = false }))) (rows_of (parse_rows q (drop head_lines lines)))

-- "Memory products 48405600, range 89403930." (Cases: ram_products)
abbrev pub RamProducts : Type 0
RamProducts =
    T (same (products_of p (lines_of (bytes ram_case.file))) (48405600 ∷ 48405600 ∷ 89403930 ∷ 89403930 ∷ []))
