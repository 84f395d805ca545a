-- The exits of put, drop and split.
use Rattle.std.proofs.Common.{◌≡◌, ℕ, ◌≤◌, Bool, false, List, [], length, Ok, Err, Option, Result, sym, refl, ap, ◌∙◌, subst, arith}
use Rattle.store.specs.declared.node.Node.{Node}
use Rattle.store.specs.declared.node.Region.{Region}
use Rattle.store.specs.Faults.{outside}
use Rattle.store.specs.Cells.{Cell, read_answer}
use Rattle.drafts.specs.Grown.{Built, tree, joined}
use Rattle.drafts.specs.Drafts.{tree_of, Fine, seen_of, gone_of, link_of, Joins}
use Rattle.drafts.specs.declared.draft.Draft.{Draft}
use Rattle.drafts.specs.declared.link.Link.{Link}
use Rattle.drafts.specs.declared.link.Side.{Side}
use Rattle.drafts.specs.declared.link.Side.TheVariants.{Empty}
use Rattle.drafts.proofs.Seeing.{tree_seen, good_fine}
use Rattle.drafts.proofs.Turning.{bind_at, bind_stop}
use Rattle.search.specs.declared.search.Sought.TheVariants.{Holder, Overlap}
use Rattle.search.specs.Searches.{Way}
use Rattle.search.specs.Frees.{Chosen}
use Rattle.commits.specs.Commits.{news, GoneInside}
use Rattle.commits.proofs.Bounds.{bind_inv, read_from}
use Rattle.walks.specs.Walks.{Graft, graft_of, numbered, sprout, parted}
use Rattle.edits.specs.declared.fault.Doing.TheVariants.{Copy}
use Rattle.edits.specs.declared.fault.TreeFault.{TreeFault}
use Rattle.edits.specs.declared.fault.Refusal.{Refusal}
use Rattle.edits.specs.declared.fault.Refusal.TheVariants.{Refused}
use Rattle.edits.specs.Refusals.{refused_in}
use Rattle.edits.specs.Calls.{Change, Ends, Within, EditsInside}
use Rattle.grafts.specs.Grafts.{vacant, holder, room_at, free_for, begun, grafted, put_told, Held, held_by, drop_needs, drop_graft, drop_told, apart, lower_of, upper_of, split_told}
use Rattle.stacks.specs.declared.numbers.Numbers.{Numbers}
use Rattle.stacks.specs.Held.{held}
use Rattle.grafts.specs.Drafted.{Begins}
use Rattle.grafts.proofs.Asking.{unpassed}

-- a way that was taken
pub begins_err : (e : Refusal) (told : Result Way Refusal) → Begins (Err e) told → Err e ≡ told
begins_err e (Ok w) p = elim p [ ]
begins_err e (Err f) p = let q : e ≡ f = cc in ap Err q

pub begins_ok : (way : Numbers 27) (end : Option ℕ) (told : Result Way Refusal) → Begins (Ok (way, end)) told → Ok (record { passed = held way; end = end }) ≡ told
begins_ok way end (Ok w) p = ap (λ z. Ok (record { passed = z; end = end })) p.0 ∙ ap (λ z. Ok (record { passed = w.passed; end = z })) p.1
begins_ok way end (Err f) p = let z : ◌≡◌ {A = ℕ} 0 1 = cc in let u : ⊥ = omega arith in elim u [ ]

held_number : {K : Type 0} (way : List ℕ) (n : ℕ) (v : Node K) (h : Held K) → ◌≡◌ {A = Result (Held K) Refusal} (Ok h) (Ok (record { way = way; node = numbered n v })) → n ≡ h.node.number
held_number {K} way n v h e = let q : ◌≡◌ {A = Held K} (record { way = way; node = numbered n v }) h = cc in ap (λ x. x.node.number) q

module _ {K : Type 0} (cs : List (Cell K)) (path : List ℕ) (root : ℕ) where
  -- a refused edit changes nothing
  pub edits_refused : (told : List ℕ → Result (Change K) Refusal) (e y : Refusal) (r : Result ℕ Refusal) → Err e ≡ told [] → r ≡ Err y → y ≡ e → EditsInside cs cs path path root root r told
  edits_refused told e y r h a b = record {
    edits = record { numbers = []; chosen = tt; ends = subst (Ends cs cs path path root root r) h (a ∙ ap Err b, refl, refl, refl) };
    inside = subst (Within (length cs)) h tt;
  }

  pub edits_end : (told : List ℕ → Result (Change K) Refusal) (ds : List (Cell K)) (path' : List ℕ) (root' : ℕ) (r : Result ℕ Refusal) (ns : List ℕ) (x : Result (Change K) Refusal) →
      Chosen cs ns → Within (length cs) x → x ≡ told ns → Ends cs ds path path' root root' r x → EditsInside cs ds path path' root root' r told
  edits_end told ds path' root' r ns x c m h p = record {
    edits = record { numbers = ns; chosen = c; ends = subst (Ends cs ds path path' root root' r) h p };
    inside = subst (Within (length cs)) h m;
  }

  -- PUT
  module _ (less : K → K → Bool) (sessions : ℕ) (x : Region K) where
    abbrev Told : List ℕ → Result (Change K) Refusal
    Told ns = put_told less cs path root sessions x ns

    abbrev Begun : Result Way Refusal
    Begun = begun less (Overlap x.low x.high) cs path root

    pub put_begun : (e : Refusal) → Err e ≡ Begun → Err e ≡ Told []
    unfolding put_told
    put_begun e h = bind_stop _ e _ h

    pub put_met : (w : Way) (e : Refusal) → Ok w ≡ Begun → Err e ≡ vacant w.end → Err e ≡ Told []
    unfolding put_told
    put_met w e h i = bind_stop _ e _ i ∙ bind_at _ w _ h

    pub put_full : (w : Way) (e : Refusal) → Ok w ≡ Begun → Ok tt ≡ vacant w.end → Err e ≡ room_at cs root → Err e ≡ Told []
    unfolding put_told
    put_full w e h i j = bind_stop _ e _ j ∙ bind_at _ tt _ i ∙ bind_at _ w _ h

    pub put_crowded : (w : Way) (e : Refusal) → Ok w ≡ Begun → Ok tt ≡ vacant w.end → Ok tt ≡ room_at cs root → Err e ≡ free_for cs 1 → Err e ≡ Told []
    unfolding put_told
    put_crowded w e h i j k = bind_stop _ e _ k ∙ bind_at _ tt _ j ∙ bind_at _ tt _ i ∙ bind_at _ w _ h

    pub put_done : (w : Way) (ns : List ℕ) (g : Graft K) → Ok w ≡ Begun → Ok tt ≡ vacant w.end → Ok tt ≡ room_at cs root → Ok tt ≡ free_for cs 1 →
        g.side ≡ tree (sprout x) → g.gone ≡ [] → grafted less (Overlap x.low x.high) cs w.passed root sessions ns g ≡ Told ns
    unfolding put_told
    put_done w ns g h i j k a b =
        ap (λ s. grafted less (Overlap x.low x.high) cs w.passed root sessions ns (record { side = s; gone = g.gone })) a
        ∙ ap (λ s. grafted less (Overlap x.low x.high) cs w.passed root sessions ns (record { side = tree (sprout x); gone = s })) b
        ∙ bind_at _ tt _ k ∙ bind_at _ tt _ j ∙ bind_at _ tt _ i ∙ bind_at _ w _ h

  -- DROP
  module _ (less : K → K → Bool) (sessions : ℕ) (k : K) where
    abbrev Dropped : List ℕ → Result (Change K) Refusal
    Dropped ns = drop_told less cs path root sessions k ns

    pub drop_unheld : (e : Refusal) → Err e ≡ held_by less k cs path root → Err e ≡ Dropped []
    unfolding drop_told
    drop_unheld e h = bind_stop _ e _ h

    pub drop_crowded : (h : Held K) (e : Refusal) → Ok h ≡ held_by less k cs path root → Err e ≡ free_for cs (drop_needs h.node.node) → Err e ≡ Dropped []
    unfolding drop_told
    drop_crowded h e a b = bind_stop _ e _ b ∙ bind_at _ h _ a

    pub drop_stopped : (h : Held K) (e : TreeFault) → Ok h ≡ held_by less k cs path root → Ok tt ≡ free_for cs (drop_needs h.node.node) → Err (Refused e) ≡ refused_in Copy (drop_graft cs h.node) → Err (Refused e) ≡ Dropped []
    unfolding drop_told
    drop_stopped h e a b d = bind_stop _ (Refused e) _ d ∙ bind_at _ tt _ b ∙ bind_at _ h _ a

    pub drop_done : (h : Held K) (ns : List ℕ) (g : Graft K) → Ok h ≡ held_by less k cs path root → Ok tt ≡ free_for cs (drop_needs h.node.node) → Ok g ≡ refused_in Copy (drop_graft cs h.node) →
        grafted less (Holder k) cs h.way root sessions ns g ≡ Dropped ns
    unfolding drop_told
    drop_done h ns g a b d = bind_at _ g _ d ∙ bind_at _ tt _ b ∙ bind_at _ h _ a

  -- SPLIT
  module _ (less same : K → K → Bool) (sessions : ℕ) (k : K) (lower upper : ℕ) where
    abbrev Divided : List ℕ → Result (Change K) Refusal
    Divided ns = split_told less same cs path root sessions k lower upper ns

    pub split_unheld : (e : Refusal) → Err e ≡ held_by less k cs path root → Err e ≡ Divided []
    unfolding split_told
    split_unheld e h = bind_stop _ e _ h

    module _ (h : Held K) (a : Ok h ≡ held_by less k cs path root) where
      pub split_low : (e : Refusal) → Err e ≡ apart (same h.node.node.low k) → Err e ≡ Divided []
      unfolding split_told
      split_low e b = bind_stop _ e _ b ∙ bind_at _ h _ a

      pub split_full : (e : Refusal) → Ok tt ≡ apart (same h.node.node.low k) → Err e ≡ room_at cs root → Err e ≡ Divided []
      unfolding split_told
      split_full e b d = bind_stop _ e _ d ∙ bind_at _ tt _ b ∙ bind_at _ h _ a

      pub split_crowded : (e : Refusal) → Ok tt ≡ apart (same h.node.node.low k) → Ok tt ≡ room_at cs root → Err e ≡ free_for cs 96 → Err e ≡ Divided []
      unfolding split_told
      split_crowded e b d f = bind_stop _ e _ f ∙ bind_at _ tt _ d ∙ bind_at _ tt _ b ∙ bind_at _ h _ a

      abbrev Parts : Result (Built K) Refusal
      Parts = refused_in Copy (parted cs h.node (lower_of k lower h.node.node) (upper_of k upper h.node.node))

      pub split_stopped : (e : TreeFault) → Ok tt ≡ apart (same h.node.node.low k) → Ok tt ≡ room_at cs root → Ok tt ≡ free_for cs 96 → Err (Refused e) ≡ Parts → Err (Refused e) ≡ Divided []
      unfolding split_told
      split_stopped e b d f i = bind_stop _ (Refused e) _ i ∙ bind_at _ tt _ f ∙ bind_at _ tt _ d ∙ bind_at _ tt _ b ∙ bind_at _ h _ a

      pub split_done : (ns : List ℕ) (m : Built K) (g : Graft K) → g ≡ graft_of m → Ok tt ≡ apart (same h.node.node.low k) → Ok tt ≡ room_at cs root → Ok tt ≡ free_for cs 96 → Ok m ≡ Parts →
          grafted less (Holder k) cs h.way root sessions ns g ≡ Divided ns
      unfolding split_told
      split_done ns m g e b d f i = ap (grafted less (Holder k) cs h.way root sessions ns) e ∙ bind_at _ m _ i ∙ bind_at _ tt _ f ∙ bind_at _ tt _ d ∙ bind_at _ tt _ b ∙ bind_at _ h _ a

  -- the node that holds the key is a node of the store
  pub held_inside : (less : K → K → Bool) (k : K) (h : Held K) → Ok h ≡ held_by less k cs path root → outside h.node.number (length cs) ≡ false
  unfolding held_by
  held_inside less k h e =
      let i = bind_inv (begun less (Holder k) cs path root) _ h e in
      let j = bind_inv (holder i.0.end) _ h i.2 in
      let l = bind_inv (refused_in Copy (read_answer cs j.0)) _ h j.2 in
      subst (λ n. outside n (length cs) ≡ false) (held_number i.0.passed j.0 l.0 h l.2) (read_from cs j.0 l.0 (unpassed Copy (read_answer cs j.0) l.0 l.1))

-- what was drafted for a put
pub record Sprouted {K : Type 0} (N : ℕ) (d : Draft K) (l : Link) (x : Region K) : Type 0 where
  pub link : Fine d l
  pub side : tree_of d l ≡ tree (sprout x)
  pub none : gone_of d ≡ []
  pub news_one : news (tree_of d l) ≤ 1
  pub gone : GoneInside N (gone_of d)

pub sprouted : {K : Type 0} (N : ℕ) (d d' : Draft K) (x : Region K) (s : Side K) (l : Link) → gone_of d ≡ [] →
    Joins 1 d d' s (joined x (seen_of d Empty) (seen_of d Empty)) → l ≡ link_of s → Sprouted N d' l x
unfolding seen_of news tree joined
sprouted N d d' x s l n j e =
    let side = ap (tree_of d') e ∙ tree_seen d' s j.good ∙ ap tree j.is in
    let none = j.gone ∙ n in
    record {
      link = subst (λ k. Fine d' k) (sym e) (good_fine d' s j.good);
      side = side;
      none = none;
      news_one = omega (arith, ap news side);
      gone = subst (GoneInside N) (sym none) tt;
    }
