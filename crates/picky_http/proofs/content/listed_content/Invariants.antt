use Rattle.std.proofs.Common.{◌≡◌, map, List}
use Rattle.std.specs.List.{AllZip}
use Rattle.picky_http.specs.Content.{content_of, given_content}
use Rattle.picky_http.specs.Given.{Entry, IsEntry}
use Rattle.picky_http.proofs.content.listed_content.Given as goal

abbrev pub invariant-loop-line : goal.invariant-loop-line
invariant-loop-line l =
    (entries : List Entry)
    × AllZip IsEntry (map (λ x. x.now) l.yielded) entries
    × (content_of l.content ≡ given_content l.text entries)
