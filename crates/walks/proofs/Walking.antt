-- The exits of the walk's functions.
use Rattle.std.proofs.Common.{◌≡◌, ℕ, zero, suc, ◌+◌, ◌*◌, ◌≤◌, List, [], ◌∷◌, ◌++◌, Some, None, Option, Ok, Err, Result, sym, refl, ap, ◌∙◌, arith}
use Rattle.store.specs.declared.node.Node.{Node}
use Rattle.store.specs.declared.node.Region.{Region}
use Rattle.store.specs.declared.fault.StoreFault.{StoreFault}
use Rattle.store.specs.Cells.{Cell, read_answer}
use Rattle.store.specs.Nodes.{region_of, link_number}
use Rattle.drafts.specs.declared.link.Link.{Link}
use Rattle.drafts.specs.declared.link.Link.TheVariants.{Old}
use Rattle.drafts.specs.declared.link.Numbered.{Numbered}
use Rattle.drafts.specs.declared.link.Side.{Side}
use Rattle.drafts.specs.declared.link.Side.TheVariants.{Empty}
use Rattle.drafts.specs.declared.draft.Draft.{Draft}
use Rattle.drafts.specs.Grown.{Grown, kept, Seen, Built, bind, tree, seen, both_seen, joined, balanced}
use Rattle.drafts.specs.Drafts.{grown, tree_of, gone_of, Grew, Good, seen_of, link_of, Makes, Joins}
use Rattle.drafts.proofs.Seeing.{fine_old, grew_left}
use Rattle.drafts.proofs.Turning.{bind_at, bind_stop, both_bound, makes_wide, makes_unseen, makes_joined}
use Rattle.walks.specs.Walks.{Graft, Walked, numbered, sprout, graft_of, walked_as, edge_end, edge_over, edge_at, walked, merged, grown_by, parted}
use Rattle.walks.specs.Outcomes.{next_down, topped, copied, walked_in, Comes, Grafts, Walks}
use Rattle.walks.proofs.Stepping.{built_in, from_makes, to_makes, comes_wide, comes_as, comes_ok, comes_refused, comes_after, comes_read, comes_unread, comes_then, comes_stop, comes_linked}

bind_on : {A B C E : Type 0} (m : Result A E) (f : A → Result B E) (g : B → Result C E) → bind (bind m f) g ≡ bind m (λ a. bind (f a) g)
bind_on (Ok a) f g = refl
bind_on (Err e) f g = refl

module _ {K : Type 0} where
  -- a new node over two links
  pub top_stop : (cs : List (Cell K)) (x : Region K) (d : Draft K) (l l' : Link) (e y : StoreFault) (r : Result (Side K) StoreFault) →
      Err e ≡ both_seen cs (tree_of d l) (tree_of d l') → r ≡ Err y → y ≡ e → Makes 3 2 d d r (topped cs (gone_of d) x (tree_of d l) (tree_of d l'))
  top_stop cs x d l l' e y r h p q = makes_wide 3 2 (omega arith) (omega arith) (makes_unseen d r e y cs (tree_of d l) (tree_of d l') _ p q h)

  pub top_seen : (cs : List (Cell K)) (gone : List (Numbered K)) (x : Region K) (l l' : Grown K) (a b : Seen K) → Ok (a, b) ≡ both_seen cs l l' → balanced cs gone x a b ≡ topped cs gone x l l'
  top_seen cs gone x l l' a b e = bind_at (both_seen cs l l') (a, b) (λ p. balanced cs gone x p.0 p.1) e ∙ both_bound (seen cs l) (seen cs l') (balanced cs gone x)

  -- a copy over a new left side
  copy_by : (cs : List (Cell K)) (d : Draft K) (v : Node K) (left : Link) (x : Region K) → x ≡ region_of v →
      bind (topped cs (gone_of d) x (tree_of d left) (tree_of d (Old v.right))) (λ b. Ok (graft_of b)) ≡ copied cs (gone_of d) v (tree_of d left)
  unfolding grown
  copy_by cs d v left x e = ap (λ z. bind (topped cs (gone_of d) z (tree_of d left) (kept v.right)) (λ b. Ok (graft_of b))) e

  pub copy_stop : (cs : List (Cell K)) (d d₁ : Draft K) (v : Node K) (left : Link) (x : Region K) (e y : StoreFault) (r : Result Link StoreFault) → x ≡ region_of v →
      Makes 3 2 d d₁ (Err e) (topped cs (gone_of d) x (tree_of d left) (tree_of d (Old v.right))) → r ≡ Err y → y ≡ e → Grafts 3 2 d d₁ r (copied cs (gone_of d) v (tree_of d left))
  copy_stop cs d d₁ v left x e y r h m p q = comes_as (comes_stop (λ b. Ok (graft_of b)) (from_makes (Err e) m) p q) (copy_by cs d v left x h)

  pub copy_done : (cs : List (Cell K)) (d d₁ : Draft K) (v : Node K) (left l : Link) (x : Region K) (s : Side K) → x ≡ region_of v →
      Makes 3 2 d d₁ (Ok s) (topped cs (gone_of d) x (tree_of d left) (tree_of d (Old v.right))) → l ≡ link_of s → Grafts 3 2 d d₁ (Ok l) (copied cs (gone_of d) v (tree_of d left))
  copy_done cs d d₁ v left l x s h m e = comes_as (comes_then (λ b. Ok (graft_of b)) (from_makes (Ok s) m) (comes_linked d₁ s l e m.good)) (copy_by cs d v left x h)

  -- a new node with no sides
  pub plant_done : (d d₁ : Draft K) (z : Region K) (s : Side K) (l : Link) → Joins 1 d d₁ s (joined z (seen_of d Empty) (seen_of d Empty)) → l ≡ link_of s →
      Grafts 1 0 d d₁ (Ok l) (Ok (record { side = tree (sprout z); gone = gone_of d }))
  unfolding seen_of
  plant_done d d₁ z s l p e = comes_then (λ b. Ok (graft_of b)) (from_makes (Ok s) (makes_joined p)) (comes_linked d₁ s l e p.good)

  -- the lowest node of the edge
  pub end_cut : (cs : List (Cell K)) (d : Draft K) (edge : Option (Region K)) (v : Node K) → edge ≡ None → Grafts 4 2 d d (Ok (Old v.right)) (edge_end cs (gone_of d) edge v)
  unfolding edge_end grown
  end_cut cs d edge v e =
      comes_wide 4 2 (omega arith) (omega arith) (comes_as (comes_ok d (Old v.right) (fine_old d v.right)) (ap (λ x. edge_end cs (gone_of d) x v) (sym e)))

  grow_by_copy : (cs : List (Cell K)) (gone : List (Numbered K)) (z : Region K) (v : Node K) → copied cs gone v (tree (sprout z)) ≡ edge_end cs gone (Some z) v
  unfolding edge_end joined tree seen
  grow_by_copy cs gone z v = bind_on (seen cs (kept v.right)) _ _

  pub end_grow : (cs : List (Cell K)) (d d₁ d₂ : Draft K) (edge : Option (Region K)) (v : Node K) (z : Region K) (l : Link) (r : Result Link StoreFault) → edge ≡ Some z →
      Grafts 1 0 d d₁ (Ok l) (Ok (record { side = tree (sprout z); gone = gone_of d })) → Grafts 3 2 d₁ d₂ r (copied cs (gone_of d₁) v (tree_of d₁ l)) →
      Grafts 4 2 d d₂ r (edge_end cs (gone_of d) edge v)
  end_grow cs d d₁ d₂ edge v z l r e p q =
      comes_as (comes_then (λ g. copied cs g.gone v g.side) p q) (grow_by_copy cs (gone_of d) z v ∙ ap (λ x. edge_end cs (gone_of d) x v) (sym e))

-- there is a next node only where one more counts
pub deeper : (k l m : ℕ) → Some m ≡ next_down k l → 1 ≤ k
deeper zero l m e = absurd (let z : ⊥ = cc in z)
deeper (suc k) l m e = omega arith

module _ {K : Type 0} where
  -- one level of the walk
  walked_unread : (k : ℕ) (cs : List (Cell K)) (edge : Option (Region K)) (gone : List (Numbered K)) (n : ℕ) (e : StoreFault) → Err e ≡ read_answer cs n → Err e ≡ walked k cs edge gone n
  unfolding walked
  walked_unread zero cs edge gone n e h = bind_stop (read_answer cs n) e _ h
  walked_unread (suc k) cs edge gone n e h = bind_stop (read_answer cs n) e _ h

  walked_end : (k : ℕ) (cs : List (Cell K)) (edge : Option (Region K)) (gone : List (Numbered K)) (n : ℕ) (v : Node K) → Ok v ≡ read_answer cs n → None ≡ next_down k v.left →
      bind (edge_end cs (gone ++ (numbered n v ∷ [])) edge v) (λ g. Ok (walked_as n g)) ≡ walked k cs edge gone n
  unfolding walked
  walked_end zero cs edge gone n v h e = bind_at (read_answer cs n) v _ h
  walked_end (suc k) cs edge gone n v h e = ap (edge_at (walked k cs edge) cs (gone ++ (numbered n v ∷ [])) edge n v) e ∙ bind_at (read_answer cs n) v _ h

  walked_on : (k k' : ℕ) (cs : List (Cell K)) (edge : Option (Region K)) (gone : List (Numbered K)) (n m : ℕ) (v : Node K) → k ≡ suc k' → Ok v ≡ read_answer cs n → Some m ≡ next_down k v.left →
      bind (walked k' cs edge (gone ++ (numbered n v ∷ [])) m) (edge_over cs v) ≡ walked k cs edge gone n
  unfolding walked
  walked_on k k' cs edge gone n m v z h e =
      ap (edge_at (walked k' cs edge) cs (gone ++ (numbered n v ∷ [])) edge n v) (e ∙ ap (λ x. next_down x v.left) z) ∙ bind_at (read_answer cs n) v _ h ∙ ap (λ x. walked x cs edge gone n) (sym z)

  over_flat : (x y : Result (Seen K) StoreFault) (f : Seen K → Seen K → Result (Built K) StoreFault) (least : ℕ) →
      bind (bind (bind x (λ a. bind y (λ b. f a b))) (λ b. Ok (graft_of b))) (λ g. Ok (walked_as least g))
      ≡ bind x (λ a. bind y (λ b. bind (f a b) (λ c. Ok (walked_as least (graft_of c)))))
  over_flat (Err e) y f least = refl
  over_flat (Ok a) (Err e) f least = refl
  over_flat (Ok a) (Ok b) f least = bind_on (f a b) _ _

  over_by : (cs : List (Cell K)) (v : Node K) (w : Walked K) → bind (copied cs w.gone v w.side) (λ g. Ok (walked_as w.least g)) ≡ edge_over cs v w
  unfolding edge_over
  over_by cs v w = over_flat (seen cs w.side) (seen cs (kept v.right)) (balanced cs w.gone (region_of v)) w.least

  pub walk_unread : (k : ℕ) (cs : List (Cell K)) (edge : Option (Region K)) (d : Draft K) (n : ℕ) (e y : StoreFault) (r : Result (ℕ × Link) StoreFault) →
      Err e ≡ read_answer cs n → r ≡ Err y → y ≡ e → Walks (3 * k + 4) (3 * k + 3) d d r (walked k cs edge (gone_of d) n)
  walk_unread k cs edge d n e y r h p q =
      comes_wide (3 * k + 4) (3 * k + 3) (omega arith) (omega arith) (comes_refused d r e y p q (walked_unread k cs edge (gone_of d) n e h))

  -- a node of the store that left
  pub record Left (d d₀ : Draft K) (p : Numbered K) : Type 0 where
    pub gone : gone_of d₀ ≡ gone_of d ++ (p ∷ [])
    pub grew : Grew 0 1 d d₀

  pub left_one : (d d₀ : Draft K) (p : Numbered K) → gone_of d₀ ≡ gone_of d ++ (p ∷ []) → d₀.made ≡ d.made → Left d d₀ p
  left_one d d₀ p g m = record { gone = g; grew = grew_left d d₀ p g m }

  module _ (k : ℕ) (cs : List (Cell K)) (edge : Option (Region K)) (d d₀ d₁ : Draft K) (n : ℕ) (v : Node K) where
    -- the end of the edge
    walk_end : (r : Result (ℕ × Link) StoreFault) → Ok v ≡ read_answer cs n → None ≡ next_down k v.left → Left d d₀ (numbered n v) →
        Walks 4 2 d₀ d₁ r (bind (edge_end cs (gone_of d₀) edge v) (λ g. Ok (walked_as n g))) → Walks (3 * k + 4) (3 * k + 3) d d₁ r (walked k cs edge (gone_of d) n)
    walk_end r h e f q =
        comes_wide (3 * k + 4) (3 * k + 3) (omega arith) (omega arith)
        (comes_as (comes_after f.grew q) (ap (λ gs. bind (edge_end cs gs edge v) (λ g. Ok (walked_as n g))) f.gone ∙ walked_end k cs edge (gone_of d) n v h e))

    pub walk_end_stop : (e y : StoreFault) (r : Result (ℕ × Link) StoreFault) → Ok v ≡ read_answer cs n → None ≡ next_down k v.left → Left d d₀ (numbered n v) →
        Grafts 4 2 d₀ d₁ (Err e) (edge_end cs (gone_of d₀) edge v) → r ≡ Err y → y ≡ e → Walks (3 * k + 4) (3 * k + 3) d d₁ r (walked k cs edge (gone_of d) n)
    walk_end_stop e y r h i f q a b = walk_end r h i f (comes_stop (λ g. Ok (walked_as n g)) q a b)

    pub walk_end_done : (l : Link) → Ok v ≡ read_answer cs n → None ≡ next_down k v.left → Left d d₀ (numbered n v) →
        Grafts 4 2 d₀ d₁ (Ok l) (edge_end cs (gone_of d₀) edge v) → Walks (3 * k + 4) (3 * k + 3) d d₁ (Ok (n, l)) (walked k cs edge (gone_of d) n)
    walk_end_done l h i f q = walk_end (Ok (n, l)) h i f (comes_then (λ g. Ok (walked_as n g)) q (comes_ok d₁ (n, l) q.good))

  -- past the node, down the edge
  module _ (k k' : ℕ) (cs : List (Cell K)) (edge : Option (Region K)) (d d₀ d₁ d₂ : Draft K) (n m : ℕ) (v : Node K) where
    walk_on : {i j : ℕ} (d' : Draft K) (r : Result (ℕ × Link) StoreFault) → k ≡ suc k' → Ok v ≡ read_answer cs n → Some m ≡ next_down k v.left → Left d d₀ (numbered n v) → i ≤ 3 * k + 4 → j ≤ 3 * k + 2 →
        Walks i j d₀ d' r (bind (walked k' cs edge (gone_of d₀) m) (edge_over cs v)) → Walks (3 * k + 4) (3 * k + 3) d d' r (walked k cs edge (gone_of d) n)
    walk_on d' r z h e f a b q =
        comes_wide (3 * k + 4) (3 * k + 3) (omega arith) (omega arith)
        (comes_as (comes_after f.grew q) (ap (λ gs. bind (walked k' cs edge gs m) (edge_over cs v)) f.gone ∙ walked_on k k' cs edge (gone_of d) n m v z h e))

    pub walk_on_stop : (e y : StoreFault) (r : Result (ℕ × Link) StoreFault) → k ≡ suc k' → Ok v ≡ read_answer cs n → Some m ≡ next_down k v.left → Left d d₀ (numbered n v) →
        Walks (3 * k' + 4) (3 * k' + 3) d₀ d₁ (Err e) (walked k' cs edge (gone_of d₀) m) → r ≡ Err y → y ≡ e → Walks (3 * k + 4) (3 * k + 3) d d₁ r (walked k cs edge (gone_of d) n)
    walk_on_stop e y r z h i f q a b = walk_on d₁ r z h i f (omega arith) (omega arith) (comes_stop (edge_over cs v) q a b)

    pub walk_uncopied : (least : ℕ) (left : Link) (e y : StoreFault) (r : Result (ℕ × Link) StoreFault) → k ≡ suc k' → Ok v ≡ read_answer cs n → Some m ≡ next_down k v.left → Left d d₀ (numbered n v) →
        Walks (3 * k' + 4) (3 * k' + 3) d₀ d₁ (Ok (least, left)) (walked k' cs edge (gone_of d₀) m) → Grafts 3 2 d₁ d₂ (Err e) (copied cs (gone_of d₁) v (tree_of d₁ left)) → r ≡ Err y → y ≡ e →
        Walks (3 * k + 4) (3 * k + 3) d d₂ r (walked k cs edge (gone_of d) n)
    walk_uncopied least left e y r z h i f q p a b =
        walk_on d₂ r z h i f (omega arith) (omega arith)
        (comes_then (edge_over cs v) q (comes_as (comes_stop (λ g. Ok (walked_as least g)) p a b) (over_by cs v (walked_in d₁ (least, left)))))

    pub walk_done : (least : ℕ) (left side : Link) → k ≡ suc k' → Ok v ≡ read_answer cs n → Some m ≡ next_down k v.left → Left d d₀ (numbered n v) →
        Walks (3 * k' + 4) (3 * k' + 3) d₀ d₁ (Ok (least, left)) (walked k' cs edge (gone_of d₀) m) → Grafts 3 2 d₁ d₂ (Ok side) (copied cs (gone_of d₁) v (tree_of d₁ left)) →
        Walks (3 * k + 4) (3 * k + 3) d d₂ (Ok (least, side)) (walked k cs edge (gone_of d) n)
    walk_done least left side z h i f q p =
        walk_on d₂ (Ok (least, side)) z h i f (omega arith) (omega arith)
        (comes_then (edge_over cs v) q
        (comes_as (comes_then (λ g. Ok (walked_as least g)) p (comes_ok d₂ (least, side) p.good)) (over_by cs v (walked_in d₁ (least, left)))))

module _ {K : Type 0} where
  -- a side with a region added
  module _ (cs : List (Cell K)) (d d₁ : Draft K) (z : Region K) (link : ℕ) where
    pub grow_none : (l : Link) → None ≡ link_number link → Grafts 1 0 d d₁ (Ok l) (Ok (record { side = tree (sprout z); gone = gone_of d })) → Grafts 82 81 d d₁ (Ok l) (grown_by cs (gone_of d) z (link_number link))
    grow_none l e p = comes_wide 82 81 (omega arith) (omega arith) (comes_as p (ap (grown_by cs (gone_of d) z) e))

    pub grow_stop : (n : ℕ) (e y : StoreFault) (r : Result Link StoreFault) → Some n ≡ link_number link → Walks 82 81 d d₁ (Err e) (walked 26 cs (Some z) (gone_of d) n) → r ≡ Err y → y ≡ e →
        Grafts 82 81 d d₁ r (grown_by cs (gone_of d) z (link_number link))
    grow_stop n e y r h p a b = comes_as (comes_stop (λ w. Ok (record { side = w.side; gone = w.gone })) p a b) (ap (grown_by cs (gone_of d) z) h)

    pub grow_done : (n least : ℕ) (side : Link) → Some n ≡ link_number link → Walks 82 81 d d₁ (Ok (least, side)) (walked 26 cs (Some z) (gone_of d) n) →
        Grafts 82 81 d d₁ (Ok side) (grown_by cs (gone_of d) z (link_number link))
    grow_done n least side h p = comes_as (comes_then (λ w. Ok (record { side = w.side; gone = w.gone })) p (comes_ok d₁ side p.good)) (ap (grown_by cs (gone_of d) z) h)

  only : (d d₀ : Draft K) (p : Numbered K) → gone_of d ≡ [] → Left d d₀ p → gone_of d₀ ≡ p ∷ []
  only d d₀ p z f = f.gone ∙ ap (λ gs. gs ++ (p ∷ [])) z

  -- drop
  module _ (cs : List (Cell K)) (p : Numbered K) (d d₀ d₁ : Draft K) where
    abbrev risen : Walked K → Result (Built K) StoreFault
    risen w = bind (read_answer cs w.least) (λ v. topped cs w.gone (region_of v) (kept p.node.left) w.side)

    merge_by : {i j : ℕ} (d' : Draft K) (r : Result (Side K) StoreFault) → gone_of d ≡ [] → Left d d₀ p → i ≤ 96 → j ≤ 95 → Comes Good built_in i j d₀ d' r (bind (walked 26 cs None (gone_of d₀) p.node.right) risen) →
        Makes 96 96 d d' r (merged cs p)
    unfolding merged
    merge_by d' r z f a b q =
        to_makes r (comes_wide 96 96 (omega arith) (omega arith) (comes_as (comes_after f.grew q) (ap (λ gs. bind (walked 26 cs None gs p.node.right) risen) (only d d₀ p z f))))

    pub merge_stop : (e y : StoreFault) (r : Result (Side K) StoreFault) → gone_of d ≡ [] → Left d d₀ p → Walks 82 81 d₀ d₁ (Err e) (walked 26 cs None (gone_of d₀) p.node.right) → r ≡ Err y → y ≡ e →
        Makes 96 96 d d₁ r (merged cs p)
    merge_stop e y r z f q a b = merge_by d₁ r z f (omega arith) (omega arith) (comes_stop risen q a b)

    pub merge_unread : (least : ℕ) (rest : Link) (e y : StoreFault) (r : Result (Side K) StoreFault) → gone_of d ≡ [] → Left d d₀ p →
        Walks 82 81 d₀ d₁ (Ok (least, rest)) (walked 26 cs None (gone_of d₀) p.node.right) → Err e ≡ read_answer cs least → r ≡ Err y → y ≡ e → Makes 96 96 d d₁ r (merged cs p)
    merge_unread least rest e y r z f q h a b = merge_by d₁ r z f (omega arith) (omega arith) (comes_then risen q (comes_unread d₁ r e y (read_answer cs least) _ a b h))

    pub merge_done : (d₂ : Draft K) (least : ℕ) (rest : Link) (v : Node K) (x : Region K) (r : Result (Side K) StoreFault) (t : Result (Built K) StoreFault) → gone_of d ≡ [] → Left d d₀ p →
        Walks 82 81 d₀ d₁ (Ok (least, rest)) (walked 26 cs None (gone_of d₀) p.node.right) → Ok v ≡ read_answer cs least → x ≡ region_of v → Makes 3 2 d₁ d₂ r t →
        t ≡ topped cs (gone_of d₁) x (tree_of d₁ (Old p.node.left)) (tree_of d₁ rest) → Makes 96 96 d d₂ r (merged cs p)
    unfolding grown
    merge_done d₂ least rest v x r t z f q h e m i =
        merge_by d₂ r z f (omega arith) (omega arith)
        (comes_then risen q (comes_read (read_answer cs least) v _ h (comes_as (from_makes r m) (i ∙ ap (λ y. topped cs (gone_of d₁) y (kept p.node.left) (tree_of d₁ rest)) e))))

  -- split
  module _ (cs : List (Cell K)) (p : Numbered K) (lower upper : Region K) (d d₀ d₁ : Draft K) where
    abbrev over_parts : Graft K → Result (Built K) StoreFault
    over_parts g = topped cs g.gone lower (kept p.node.left) g.side

    part_by : {i j : ℕ} (d' : Draft K) (r : Result (Side K) StoreFault) → gone_of d ≡ [] → Left d d₀ p → i ≤ 96 → j ≤ 95 →
        Comes Good built_in i j d₀ d' r (bind (grown_by cs (gone_of d₀) upper (link_number p.node.right)) over_parts) → Makes 96 96 d d' r (parted cs p lower upper)
    unfolding parted
    part_by d' r z f a b q =
        to_makes r (comes_wide 96 96 (omega arith) (omega arith) (comes_as (comes_after f.grew q) (ap (λ gs. bind (grown_by cs gs upper (link_number p.node.right)) over_parts) (only d d₀ p z f))))

    pub part_stop : (e y : StoreFault) (r : Result (Side K) StoreFault) (t : Result (Graft K) StoreFault) → gone_of d ≡ [] → Left d d₀ p → Grafts 82 81 d₀ d₁ (Err e) t →
        t ≡ grown_by cs (gone_of d₀) upper (link_number p.node.right) → r ≡ Err y → y ≡ e → Makes 96 96 d d₁ r (parted cs p lower upper)
    part_stop e y r t z f q i a b = part_by d₁ r z f (omega arith) (omega arith) (comes_stop over_parts (comes_as q i) a b)

    pub part_done : (d₂ : Draft K) (right : Link) (r : Result (Side K) StoreFault) (t : Result (Graft K) StoreFault) (u : Result (Built K) StoreFault) → gone_of d ≡ [] → Left d d₀ p → Grafts 82 81 d₀ d₁ (Ok right) t →
        t ≡ grown_by cs (gone_of d₀) upper (link_number p.node.right) → Makes 3 2 d₁ d₂ r u → u ≡ topped cs (gone_of d₁) lower (tree_of d₁ (Old p.node.left)) (tree_of d₁ right) →
        Makes 96 96 d d₂ r (parted cs p lower upper)
    unfolding grown
    part_done d₂ right r t u z f q i m j = part_by d₂ r z f (omega arith) (omega arith) (comes_then over_parts (comes_as q i) (comes_as (from_makes r m) j))
