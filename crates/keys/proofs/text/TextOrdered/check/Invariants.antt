use Rattle.std.proofs.Common.{◌≡◌, ◌+◌, length, drop}
use Rattle.keys.specs.Texts.{stray_fault}
use Rattle.keys.proofs.text.TextOrdered.check.Given as goal

-- the bytes that are left stand at the places that are left, and have the fault that all have
abbrev pub invariant-loop-place : goal.invariant-loop-place
invariant-loop-place l =
    let places = l.place-iterator.a in
    let bytes = l.place-iterator.b.rest.now in
    (places.start + length bytes ≡ places.end)
    × (stray_fault places.start bytes ≡ stray_fault l.self.len (drop l.self.len l.self.bytes))
