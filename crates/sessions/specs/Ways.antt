-- What a search does at one node.
use Rattle.std.specs.Prelude.{Ok, Err, Option, Result}
use Rattle.std.specs.declared.cmp.Ordering.{Ordering}
use Rattle.std.specs.declared.cmp.Ordering.TheVariants.{Less, Equal, Greater}
use Rattle.keys.specs.Orders.{compared}
use Rattle.sessions.specs.declared.way.Way.{Way}
use Rattle.sessions.specs.declared.way.Way.TheVariants.{Left, Here, Right}

-- the way at a node, where the key is not below its low, by how the key stands to its high
abbrev pub way_by_high : {F : Type 0} → Result Ordering F → Way
way_by_high (Ok Less) = Here
way_by_high (Ok Equal) = Right
way_by_high (Ok Greater) = Right
way_by_high (Err e) = Right

-- the way at a node, by how the key stands to its low and then to its high
abbrev pub way_by : {F : Type 0} → Result Ordering F → Result Ordering F → Way
way_by (Ok Less) high = Left
way_by (Ok Equal) high = way_by_high high
way_by (Ok Greater) high = way_by_high high
way_by (Err e) high = Right

-- left if the key is below low, here if low is not above the key and the key is below high, else right;
-- a key that cannot be compared is not held, and the search goes right
unfoldable pub way_of : {K F : Type 0} → (K → Option F) → (K → K → Ordering) → K → K → K → Way
way_of fault order key low high = way_by (compared (fault key) (fault low) (order key low)) (compared (fault key) (fault high) (order key high))
