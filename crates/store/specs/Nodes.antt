-- Regions, nodes and links, as every layer above the stores sees them.
use Rattle.std.specs.Prelude.{ℕ, cond, Some, None, Option, ◌==◌}
use Rattle.store.specs.declared.node.Node.{Node}
use Rattle.store.specs.declared.node.Region.{Region}

abbrev pub region : {K : Type 0} → K → K → ℕ → Region K
region low high rows = record { low = low; high = high; rows = rows }

abbrev pub region_of : {K : Type 0} → Node K → Region K
region_of v = region v.low v.high v.rows

-- a node with this mark and these keys, zeros elsewhere
abbrev pub plain : {K : Type 0} → ℕ → K → K → Node K
plain m low high = record { mark = m; left = 0; right = 0; size = 0; rows = 0; waits = 0; low = low; high = high }

-- the mark of a node that waits for these sessions: free where there are none
abbrev pub waiting_mark : ℕ → ℕ
waiting_mark sessions = cond (sessions == 0) 0 2

-- the node as it waits for these sessions; the rest as it is
abbrev pub waiting : {K : Type 0} → ℕ → Node K → Node K
waiting sessions v =
    record { mark = waiting_mark sessions; left = v.left; right = v.right; size = v.size; rows = v.rows; waits = sessions; low = v.low; high = v.high }

-- the node that a link leads to: none at 0
abbrev pub link_number : ℕ → Option ℕ
link_number l = cond (l == 0) None (Some l)
