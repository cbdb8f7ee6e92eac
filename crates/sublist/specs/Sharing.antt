-- Only private contracts cite this file. By how many keys patterns begin alike; a `>` is no key, and none follows it.
use Rattle.std.specs.Prelude.{ℕ, suc, Bool, not, List, [], ◌∷◌, map, nat_eq}
use Rattle.subject_rules.specs.Choice.{pick, and, or}
use Rattle.subject_rules.specs.Text.{tokens, is_tail}
use Rattle.subject_rules.specs.Fnv.{fnv}
use Rattle.sublist_tree.specs.Lists.{largest}
use Rattle.sublist_tree.specs.Tree.{Key, line_of, key_is, keys_of}
use Rattle.sublist_area_rules.specs.Words.{token_key}
use Rattle.sublist_entries.specs.declared.Entry.{Entry}
use Rattle.sublist_entries.specs.Entries.{text_of}

module _ {K : Type 0} (eq : K → K → Bool) where
  -- how many keys the two begin with alike
  abbrev pub shared : List (Key K) → List (Key K) → ℕ
  shared [] js = 0
  shared (k ∷ ks) [] = 0
  shared (k ∷ ks) (j ∷ js) = pick (key_is eq j k) (suc (shared ks js)) 0

-- the keys of a pattern's tokens
abbrev pub keys_in : List (List ℕ) → List (Key ℕ)
keys_in ts = keys_of (line_of fnv ts 0)

-- neither token is `>`, and their keys are equal
unfoldable pub same_key : List ℕ → List ℕ → Bool
same_key s t = and (not (or (is_tail s) (is_tail t))) (key_is nat_eq (token_key t) (token_key s))

-- how many keys two texts begin with alike
unfoldable pub shared_by : List ℕ → List ℕ → ℕ
shared_by a b = shared nat_eq (keys_in (tokens a)) (keys_in (tokens b))

-- the most keys that the text begins with alike with one of the entries
unfoldable pub longest : List ℕ → List ℕ → List Entry → ℕ
longest store text es = largest (map (λ e. shared_by text (text_of store e)) es)
