-- Only private contracts cite this file. What the parts of a build tell each other.
use Rattle.std.specs.Prelude.{◌≡◌, ℕ, ◌+◌, ◌*◌, ◌/◌, ◌<◌, ◌≤◌, List, [], ◌∷◌, length}
use Rattle.std.specs.Prelude.{Result, Ok, Err}
use Rattle.std.specs.List.{All}
use Rattle.std.proofs.Math.Option.{Option, none, some}
use Rattle.subject_rules.specs.Answers.{Answer}
use Rattle.sublist_area_rules.specs.declared.PlaceError.{PlaceError}
use Rattle.sublist_area_rules.specs.Words.{words_per_node}
use Rattle.sublist.specs.declared.SublistError.{SublistError}
use Rattle.sublist.specs.declared.LineEnd.{LineEnd}
use Rattle.sublist.specs.declared.Ended.{Ended}
use Rattle.sublist.specs.Answers.{build_refusal}
use Rattle.sublist_rules.specs.Passes.{End, end, Growth, growth, stopped}

-- the refusal, if there is one
abbrev pub refused : {T : Type 0} → Result T SublistError → Option Answer
refused (Ok x) = none
refused (Err e) = some (build_refusal e)

-- node i lies in the area
abbrev pub HasNode : List ℕ → ℕ → Type 0
HasNode a i = i * words_per_node + words_per_node ≤ length a

-- the first n nodes do, the root among them
abbrev pub HasNodes : List ℕ → ℕ → Type 0
HasNodes a n = (0 < n) × (n * words_per_node ≤ length a)

-- where a line ends
abbrev pub end_of : LineEnd → End
end_of e = end e.node e.tail

-- each line ends at a node below n
abbrev pub EndBelow : ℕ → List LineEnd → Type 0
EndBelow n es = All (λ e. e.node < n) es

-- where a pattern ended, and the area then
abbrev pub ended_as : Result Ended PlaceError → List ℕ → Growth
ended_as (Ok e) a = growth e.count a (end_of e.end ∷ [])
ended_as (Err e) a = stopped a

-- the node where it ended is one of those counted, and they fit so many words
abbrev pub EndFits : ℕ → Ended → Type 0
EndFits words e = (e.end.node < e.count) × (e.count * 16 ≤ words)

-- the nodes of all lines, their words, and where the lines end
abbrev pub grown_as : Result ℕ PlaceError → List ℕ → List End → Growth
grown_as (Ok n) a ends = growth n a ends
grown_as (Err e) a ends = stopped a

-- they fit so many words, and k lines end at nodes that do
abbrev pub AllFit : ℕ → List LineEnd → ℕ → ℕ → Type 0
AllFit k es words n = (0 < n) × (n * 16 ≤ words) × (length es ≡ k) × EndBelow (words / 16) es
