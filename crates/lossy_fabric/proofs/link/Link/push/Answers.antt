use Rattle.std.proofs.Common.{◌≡◌, ◌<◌, length, arith}
use Rattle.lossy_fabric.specs.Links.{link_room}
use Rattle.lossy_fabric.proofs.Runs.{pushed_at, pushed_letters, length-letters_at}
use Rattle.lossy_fabric.proofs.Rooms.{starts_room, starts_fit, bytes_room, pushed_room}
use Rattle.lossy_fabric.proofs.link.Link.push.Goals as goal

pub push_reserved-requires : goal.push_reserved-requires
push_reserved-requires c =
    let room : 0 < link_room c.self.inside.bytes c.self.inside.starts = rw (← c.self.view_is) at c.requires.room in
    starts_room c.self.inside.bytes c.self.inside.starts room

pub encode_letter_into-requires-clause-room : goal.encode_letter_into-requires-clause-room
encode_letter_into-requires-clause-room c =
    let room : 0 < link_room c.self.inside.bytes c.self.inside.starts = rw (← c.self.view_is) at c.requires.room in
    bytes_room c.self.inside.bytes c.self.inside.starts room

pub invariant_of-self : goal.invariant_of-self
invariant_of-self c =
    let room : 0 < link_room c.self.inside.bytes c.self.inside.starts = rw (← c.self.view_is) at c.requires.room in
    let fit = starts_fit c.self.inside.bytes c.self.inside.starts room in
    let last : c.len.result ≡ length c.self.inside.bytes.items = omega (arith, c.len.ensures, c.self.inside.bytes.ok) in
    let number : c.len-number.result ≡ length c.self.inside.starts.items = omega (arith, c.len-number.ensures, c.self.inside.starts.ok) in
    (omega (arith, c.push_reserved.ensures.len), rw (c.encode_letter_into.ensures.bytes, c.push_reserved.ensures.items, last) (pushed_at c.self.inside.bytes.items c.self.inside.starts.items c.len-number.result c.args.letter.now number c.self.invariant.1 c.encode_letter_into.ensures.packet c.requires.fits))

pub returns-clause-letters : goal.returns-clause-letters
returns-clause-letters c =
    let last : c.len.result ≡ length c.self.inside.bytes.items = omega (arith, c.len.ensures, c.self.inside.bytes.ok) in
    rw (← c.self.view_is, c.encode_letter_into.ensures.bytes, c.push_reserved.ensures.items, last) (pushed_letters c.self.inside.bytes.items c.self.inside.starts.items c.len-number.result c.args.letter.now c.self.invariant.1 c.encode_letter_into.ensures.packet c.requires.fits)

pub returns-clause-room : goal.returns-clause-room
returns-clause-room c =
    rw (← c.self.view_is) (pushed_room c.self.inside.bytes c.self.inside.starts c.encode_letter_into.new.out c.push_reserved.new.self c.encode_letter_into.ensures.room c.push_reserved.ensures.capacity c.push_reserved.ensures.len)

pub returns-clause-number : goal.returns-clause-number
returns-clause-number c =
    rw (← c.self.view_is, length-letters_at c.self.inside.bytes.items c.self.inside.starts.items) (omega (arith, c.len-number.ensures, c.self.inside.starts.ok))
