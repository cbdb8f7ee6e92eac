-- A turn writes the bytes of one number behind those of the numbers before it.
use Rattle.std.proofs.Common.{◌≡◌, ℕ, ◌+◌, ◌-◌, ◌*◌, ◌<◌, ◌≤◌, List, [], ◌++◌, length, get_or, take, drop, sym, ap, ◌∙◌, arith}
use Rattle.std.specs.List.{flat_map}
use Rattle.std.proofs.lemmas.Slice.{take-put_mid, drop-put_mid}
use Rattle.std.proofs.lemmas.Nat.{row_fits}
use Rattle.std.proofs.lemmas.List.{take_more, flat_map_more, drop-drop, length-take-le, length-drop}
use borrow.Rule.Slice.PartMut.{put_mid}
use Rattle.router_bytes.proofs.store.Goals as goal

module _ {X : Type 0} (spell : X → List ℕ) (width : ℕ) (ns : List X) (now part : List ℕ) (i : ℕ) (n : X) where
  more : i * width + width ≤ length now → length part ≡ width → i < length ns → part ≡ spell n → n ≡ get_or ns i n → take (i * width) now ≡ flat_map spell (take i ns)
      → take ((i + 1) * width) (put_mid (i * width) (i * width + width - i * width) now part) ≡ flat_map spell (take (i + 1) ns)
  more fits long h e is written =
      take-put_mid (i * width) (i * width + width - i * width) now part ((i + 1) * width) (omega arith) (omega arith)
      ∙ ap (λ l. l ++ part) written
      ∙ ap (λ l. flat_map spell (take i ns) ++ l) (e ∙ ap spell is)
      ∙ flat_map_more spell [] (take i ns) (get_or ns i n)
      ∙ ap (flat_map spell) (sym (take_more ns i n h))

later : (width i : ℕ) (bytes : List ℕ) → drop ((i + 1) * width) bytes ≡ drop width (drop (i * width) bytes)
later width i bytes = ap (λ k. drop k bytes) (omega arith) ∙ sym (drop-drop width (i * width) bytes)

pub loop-i-preserved : goal.loop-i-preserved
loop-i-preserved g c =
    let w = g.row.WIDTH in
    let i = c.loop-i.i in
    let now = c.loop-i.bytes in
    let part = c.copy_from_slice.new.self in
    let fits : i * w + w ≤ length now = omega (arith, row_fits i w (length c.args.numbers.now) w (omega arith) (omega arith)) in
    let long : length part ≡ w = c.copy_from_slice.ensures.len ∙ length-take-le (i * w + w - i * w) (drop (i * w) now) (omega (arith, length-drop {A = ℕ})) ∙ omega arith in
    record {
      written = more g.T.Spelled.spell w c.args.numbers.now now part i c.index-numbers-i.result fits long c.loop-i-test.true (c.copy_from_slice.ensures.after ∙ c.to_bytes.ensures) c.index-numbers-i.is c.loop-i.invariant.written;
      left =
          drop-put_mid (i * w) (i * w + w - i * w) now part ((i + 1) * w) (omega arith) (omega arith) (omega arith)
          ∙ later w i now
          ∙ ap (drop w) c.loop-i.invariant.left
          ∙ sym (later w i c.args.bytes.now);
    }
