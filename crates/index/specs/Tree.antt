-- A digital search tree over a list of values, of one word a value. Node j holds the value at place
-- j, and node 0 is the root. A word packs the two children of its node as left · 65,536 + right. A
-- search goes left where its key is even and right where it is odd, and halves the key.
-- What stands in a word above the two children is not looked at.
-- Assumes nothing.
use Rattle.std.specs.Prelude.{ℕ, zero, suc, ◌+◌, ◌-◌, ◌*◌, ◌/◌, ◌%◌, ◌&&◌, cond, List, eqb, ltb, length, get_or, set}
use Rattle.std.specs.Prelude.{Option, None, Some}
use Rattle.memory.specs.Rows.{limit}
use Rattle.index.specs.declared.Stop.{Stop}
use Rattle.index.specs.declared.Children.{Children}

-- the two children in a word, and the word of two children
abbrev pub children_in : ℕ → Children
children_in word = record { left = word / limit % limit; right = word % limit }

abbrev pub word_of : Children → ℕ
word_of c = c.left % limit * limit + c.right % limit

-- the child in a word on the side that a key names, and a word with node k put on that side
unfoldable pub side_of : ℕ → ℕ → ℕ
side_of key word = cond (eqb (key % 2) 0) (word / limit % limit) (word % limit)

unfoldable pub joined : ℕ → ℕ → ℕ → ℕ
joined key word k =
    cond (eqb (key % 2) 0) (k % limit * limit + word % limit) (word / limit % limit * limit + k % limit)

-- the child of a node among n nodes: 0, which is none, where it is not above its parent or not
-- below n
unfoldable pub child_at : ℕ → List ℕ → ℕ → ℕ → ℕ
child_at n links node key =
    let c = side_of key (get_or links node 0) in
    cond (ltb node c && ltb c n) c 0

-- the same as an option
abbrev pub child_of : ℕ → List ℕ → ℕ → ℕ → Option ℕ
child_of n links node key = cond (eqb (child_at n links node key) 0) None (Some (child_at n links node key))

unfoldable pub stop_at : ℕ → ℕ → Stop
stop_at node key = record { node = node; key = key }

-- where a search for x ends, from a node and a key on, after so many steps at most: at a node that
-- holds x, or that has no child on the key's side
unfoldable pub walked : ℕ → List ℕ → List ℕ → ℕ → ℕ → ℕ → Stop
walked zero values links x key node = stop_at node key
walked (suc f) values links x key node =
    let c = child_at (length values) links node key in
    let rest = walked f values links x (key / 2) c in
    cond (eqb (get_or values node 0) x) (stop_at node key) (cond (eqb c 0) (stop_at node key) rest)

-- from the root on
unfoldable pub stop_of : ℕ → List ℕ → List ℕ → Stop
stop_of x values links = walked (length values) values links x x 0

-- the place that a search finds, or how many values there are
unfoldable pub found : ℕ → List ℕ → List ℕ → ℕ
found x values links =
    let s = stop_of x values links in
    cond (eqb (get_or values s.node 0) x) s.node (length values)

-- the place as an option, which is none where there is no such value
abbrev pub found_at : ℕ → List ℕ → List ℕ → Option ℕ
found_at x values links = cond (ltb (found x values links) (length values)) (Some (found x values links)) None

-- node k is put where the search for its value ends, unless an earlier node holds that value
unfoldable pub inserted : List ℕ → List ℕ → ℕ → List ℕ
inserted values links k =
    let s = stop_of (get_or values k 0) values links in
    cond (eqb (get_or values s.node 0) (get_or values k 0)) links
    (set links s.node (joined s.key (get_or links s.node 0) k))

-- so many nodes from node k on, one after the other, and all nodes after the root
unfoldable pub grown_from : List ℕ → ℕ → ℕ → List ℕ → List ℕ
grown_from values k zero links = links
grown_from values k (suc c) links = grown_from values (suc k) c (inserted values links k)

unfoldable pub grown : List ℕ → List ℕ → List ℕ
grown values links = grown_from values 1 (length values - 1) links
