-- The content of a cell: what the columns value and old hold, the y of a cell's record, and what
-- the plain memory keeps. Document 01's content is one number. The definitions of crates memory and
-- runs carry contents from place to place and compare them; where one reads a number out of a
-- content, or makes a content of a number, it says so by `number_of` or `content_of`. The queue's
-- hash takes contents as its elements.
-- Assumes nothing.
use Rattle.std.specs.Prelude.{ℕ, ◌*◌, Bool, eqb}

abbrev pub Content : Type 0
Content = ℕ

-- the content where there is none to tell: an unused column, a skipped pop or dequeue
abbrev pub no_content : Content
no_content = 0

-- whether two contents are equal
unfoldable pub same_content : Content → Content → Bool
same_content x y = eqb x y

-- the content of a number, and the number of a content
abbrev pub content_of : ℕ → Content
content_of x = x

abbrev pub number_of : Content → ℕ
number_of y = y

-- "b·y": a content weighed by the challenge's coefficient
abbrev pub weighed : ℕ → Content → ℕ
weighed b y = b * y
