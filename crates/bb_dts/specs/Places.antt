-- The places of a source's grammar, and the tokens that may come at each.
use Rattle.std.specs.Prelude.{Option, Some, None}
use Rattle.bb_dts.specs.declared.token_kind.TokenKind.{TokenKind}
use Rattle.bb_dts.specs.declared.token_kind.TokenKind.TheVariants.{DtsV1, Memreserve, Slash, OpenBrace, CloseBrace, Semicolon, Equals, Less, Greater, OpenBracket, CloseBracket, Comma, Quoted, Reference, Label, Name, Number, Byte, End}
use Rattle.bb_dts.specs.declared.token_kind.Mode.{Mode}
use Rattle.bb_dts.specs.declared.token_kind.Mode.TheVariants.{Directives, Names, Values, Numbers, Pairs}

-- what was read last, or what comes next. A body is what stands between a node's `{` and `}`
pub data Place : Type 0 where
  Start Version Head Address Length ReserveEnd Top TopLabel Open : Place
  Props PropsLabel PropName Value Cells Bytes After : Place
  Close TopClose Nodes NodesLabel NodeName : Place

-- The table of places: a place, a token that may come there, and the place after it. The walk
-- begins at Start. Any other token is refused, as is the end of the text anywhere but at Top.
abbrev pub follows : Place → TokenKind → Option Place
follows Start DtsV1 = Some Version
follows Version Semicolon = Some Head
follows Head Label = Some Head
follows Head Memreserve = Some Address
follows Head Slash = Some Open
follows Head Reference = Some Open
follows Address Number = Some Length
follows Length Number = Some ReserveEnd
follows ReserveEnd Semicolon = Some Head
follows Top Label = Some TopLabel
follows Top Slash = Some Open
follows Top Reference = Some Open
follows Top End = Some Top
follows TopLabel Label = Some TopLabel
follows TopLabel Slash = Some Open
follows TopLabel Reference = Some Open
follows Open OpenBrace = Some Props
follows Props Label = Some PropsLabel
follows Props Name = Some PropName
follows Props CloseBrace = Some Close
follows PropsLabel Label = Some PropsLabel
follows PropsLabel Name = Some PropName
follows PropName OpenBrace = Some Props
follows PropName Equals = Some Value
follows PropName Semicolon = Some Props
follows Value Quoted = Some After
follows Value Reference = Some After
follows Value Less = Some Cells
follows Value OpenBracket = Some Bytes
follows Cells Number = Some Cells
follows Cells Reference = Some Cells
follows Cells Greater = Some After
follows Bytes Byte = Some Bytes
follows Bytes CloseBracket = Some After
follows After Comma = Some Value
follows After Semicolon = Some Props
-- the body that `}` closes is in another one; where it is in none the place after is TopClose
follows Close Semicolon = Some Nodes
follows TopClose Semicolon = Some Top
follows Nodes Label = Some NodesLabel
follows Nodes Name = Some NodeName
follows Nodes CloseBrace = Some Close
follows NodesLabel Label = Some NodesLabel
follows NodesLabel Name = Some NodeName
follows NodeName OpenBrace = Some Props
follows _ _ = None

-- how words are read at a place: with the lines of C's preprocessor left out where a property or a
-- node may begin and where no body is open
abbrev pub mode_of : Place → Mode
mode_of Start = Directives
mode_of Version = Directives
mode_of Head = Directives
mode_of Address = Numbers
mode_of Length = Numbers
mode_of ReserveEnd = Numbers
mode_of Top = Directives
mode_of TopLabel = Directives
mode_of Open = Directives
mode_of Props = Directives
mode_of PropsLabel = Names
mode_of PropName = Names
mode_of Value = Values
mode_of Cells = Numbers
mode_of Bytes = Pairs
mode_of After = Values
mode_of Close = Names
mode_of TopClose = Directives
mode_of Nodes = Directives
mode_of NodesLabel = Names
mode_of NodeName = Names
