-- The nodes and the parts that they are made of. Assumes nothing.
use Rattle.std.proofs.Common.{◌≡◌, refl, ap, arith, ℕ, zero, suc, ◌<◌, ◌≤◌, List, [], ◌∷◌, ◌++◌, length, set, slice_get, Some}
use Rattle.open_list.specs.Entries.{Entry}
use Rattle.search_theory.specs.Nodes.{Node}
use Rattle.search.specs.Contents.{node_of, nodes_from}

-- something stands at a place of a list
pub some_there : {X : Type 0} (xs : List X) (i : ℕ) → i < length xs → (x : X) × (slice_get xs i ≡ Some x)
some_there {X} [] i inside = absurd (omega arith)
some_there {X} (x ∷ xs) zero inside = (x, refl)
some_there {X} (x ∷ xs) (suc i) inside = some_there xs i (omega arith)

-- the parts of the node at a place
pub record Parts {P : Type 0} (ps : List P) (es : List Entry) (ks ls : List ℕ) (i : ℕ) (node : Node P) : Type 0 where
  pub position : P
  pub entry : Entry
  pub key : ℕ
  pub link : ℕ
  pub position_is : slice_get ps i ≡ Some position
  pub entry_is : slice_get es i ≡ Some entry
  pub key_is : slice_get ks i ≡ Some key
  pub link_is : slice_get ls i ≡ Some link
  pub node_is : node ≡ node_of position entry key link

deeper : {P : Type 0} (ps : List P) (es : List Entry) (ks ls : List ℕ) (i : ℕ) (node : Node P) (p : P) (e : Entry) (k l : ℕ) → Parts ps es ks ls i node → Parts (p ∷ ps) (e ∷ es) (k ∷ ks) (l ∷ ls) (suc i) node
deeper {P} ps es ks ls i node p e k l h = record {
  position = h.position;
  entry = h.entry;
  key = h.key;
  link = h.link;
  position_is = h.position_is;
  entry_is = h.entry_is;
  key_is = h.key_is;
  link_is = h.link_is;
  node_is = h.node_is;
}

pub node_parts : {P : Type 0} (ps : List P) (es : List Entry) (ks ls : List ℕ) (i : ℕ) (node : Node P) → slice_get (nodes_from ps es ks ls) i ≡ Some node → Parts ps es ks ls i node
node_parts {P} ps [] ks ls i node h = absurd (cc)
node_parts {P} [] (e ∷ es) ks ls i node h = absurd (cc)
node_parts {P} (p ∷ ps) (e ∷ es) [] ls i node h = absurd (cc)
node_parts {P} (p ∷ ps) (e ∷ es) (k ∷ ks) [] i node h = absurd (cc)
node_parts {P} (p ∷ ps) (e ∷ es) (k ∷ ks) (l ∷ ls) zero node h = record {
  position = p;
  entry = e;
  key = k;
  link = l;
  position_is = refl;
  entry_is = refl;
  key_is = refl;
  link_is = refl;
  node_is = cc;
}
node_parts {P} (p ∷ ps) (e ∷ es) (k ∷ ks) (l ∷ ls) (suc i) node h = deeper ps es ks ls i node p e k l (node_parts ps es ks ls i node h)

pub length-nodes : {P : Type 0} (ps : List P) (es : List Entry) (ks ls : List ℕ) → length ks ≡ length es → length es ≤ length ps → length es ≤ length ls → length (nodes_from ps es ks ls) ≡ length es
length-nodes {P} ps [] ks ls a b c = refl
length-nodes {P} [] (e ∷ es) ks ls a b c = absurd (omega arith)
length-nodes {P} (p ∷ ps) (e ∷ es) [] ls a b c = absurd (omega arith)
length-nodes {P} (p ∷ ps) (e ∷ es) (k ∷ ks) [] a b c = absurd (omega arith)
length-nodes {P} (p ∷ ps) (e ∷ es) (k ∷ ks) (l ∷ ls) a b c = ap suc (length-nodes ps es ks ls (omega arith) (omega arith) (omega arith))

-- one node more
pub nodes_push : {P : Type 0} (ps : List P) (es : List Entry) (ks ls : List ℕ) (p : P) (e : Entry) (k l : ℕ) → length ks ≡ length es → length es < length ps → length es < length ls
    → nodes_from (set ps (length es) p) (es ++ (e ∷ [])) (ks ++ (k ∷ [])) (set ls (length es) l) ≡ nodes_from ps es ks ls ++ (node_of p e k l ∷ [])
nodes_push {P} [] es ks ls p e k l a b c = absurd (omega arith)
nodes_push {P} (q ∷ ps) es ks [] p e k l a b c = absurd (omega arith)
nodes_push {P} (q ∷ ps) [] [] (m ∷ ls) p e k l a b c = refl
nodes_push {P} (q ∷ ps) [] (j ∷ ks) (m ∷ ls) p e k l a b c = absurd (omega arith)
nodes_push {P} (q ∷ ps) (f ∷ es) [] (m ∷ ls) p e k l a b c = absurd (omega arith)
nodes_push {P} (q ∷ ps) (f ∷ es) (j ∷ ks) (m ∷ ls) p e k l a b c =
    ap (λ ns. node_of q f j m ∷ ns) (nodes_push ps es ks ls p e k l (omega arith) (omega arith) (omega arith))

-- another entry and another link of a node
pub nodes_set : {P : Type 0} (ps : List P) (es : List Entry) (ks ls : List ℕ) (i : ℕ) (p : P) (k : ℕ) (e : Entry) (l : ℕ) → slice_get ps i ≡ Some p → slice_get ks i ≡ Some k → i < length ls
    → nodes_from ps (set es i e) ks (set ls i l) ≡ set (nodes_from ps es ks ls) i (node_of p e k l)
nodes_set {P} ps [] ks ls i p k e l a b c = refl
nodes_set {P} [] (f ∷ es) ks ls i p k e l a b c = absurd (cc)
nodes_set {P} (q ∷ ps) (f ∷ es) [] ls i p k e l a b c = absurd (cc)
nodes_set {P} (q ∷ ps) (f ∷ es) (j ∷ ks) [] i p k e l a b c = absurd (omega arith)
nodes_set {P} (q ∷ ps) (f ∷ es) (j ∷ ks) (m ∷ ls) zero p k e l a b c = cc
nodes_set {P} (q ∷ ps) (f ∷ es) (j ∷ ks) (m ∷ ls) (suc i) p k e l a b c = ap (λ ns. node_of q f j m ∷ ns) (nodes_set ps es ks ls i p k e l a b (omega arith))

-- another entry of a node
pub nodes_entry : {P : Type 0} (ps : List P) (es : List Entry) (ks ls : List ℕ) (i : ℕ) (p : P) (k : ℕ) (e : Entry) (l : ℕ) → slice_get ps i ≡ Some p → slice_get ks i ≡ Some k → slice_get ls i ≡ Some l
    → nodes_from ps (set es i e) ks ls ≡ set (nodes_from ps es ks ls) i (node_of p e k l)
nodes_entry {P} ps [] ks ls i p k e l a b c = refl
nodes_entry {P} [] (f ∷ es) ks ls i p k e l a b c = absurd (cc)
nodes_entry {P} (q ∷ ps) (f ∷ es) [] ls i p k e l a b c = absurd (cc)
nodes_entry {P} (q ∷ ps) (f ∷ es) (j ∷ ks) [] i p k e l a b c = absurd (cc)
nodes_entry {P} (q ∷ ps) (f ∷ es) (j ∷ ks) (m ∷ ls) zero p k e l a b c = cc
nodes_entry {P} (q ∷ ps) (f ∷ es) (j ∷ ks) (m ∷ ls) (suc i) p k e l a b c = ap (λ ns. node_of q f j m ∷ ns) (nodes_entry ps es ks ls i p k e l a b c)
