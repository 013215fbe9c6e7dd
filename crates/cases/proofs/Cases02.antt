-- What the second program printed for cases 40 to 59 of seed 7, and that the definitions print the same. Made by tools/theorems.
use Prim.Native.Nat.{ℕ}
use mathlib.Core.Path.{◌≡◌, refl}
use mathlib.Core.List.{List, [], ◌∷◌, ◌++◌, map}
use Rattle.syntax.specs.Bytes.{bytes}
use Rattle.meaning.proofs.Printing.{Case, whole, printing}

unfoldable asked : List Case
asked =
    whole (bytes "monitor m{var z0=2in 1..3;var Y1=0in 0..2;var b2=1in 1..003;var e3=01in 1..1;var B4=-36in-36..-36;var z5=127in 127..127;keep true;method z0{waituntil(B4<-036){B4:=B4+1;}waituntil(e3>1){e3:=e3-1;}}method e1{waituntil(e3 mod b2==0){z5:=z5;}}method z2{waituntil(z5>127){z5:=z5-1;}}}") (bytes "000300\n010201\n010000\n0A0201\n020300\n030300\n0A0300\n")
    ∷ whole (bytes "monitor m{var x0=2in 1..2;var a1=1in 1..4;var x2=1in 0..1;keep x0 mod 999==2;try true;try true;try true;try true;try a1<4;try a1<3;try true;try true;try true;try true;try a1<2;try true;try true;try true;try true;try true;try true;method Y0{waituntil(true){}}} ") (bytes "0B0100\n040000\n0D0000\n090000\n080000\n0F0000\n")
    ∷ whole (bytes "monitor m{var f0=0in 000..3;var B1=0in 0..1;keep true;try f0==0;try B1==0;method B0{waituntil(f0!=0){f0:=f0-1;}}method Z1{waituntil(f0!=3){f0:=3;}}method A2{waituntil(B1 mod 2==001){if(f0!=000){B1:=0;}}waituntil(B1 mod 2==1){if(B1!=0){f0:=0;}}}}") (bytes "030000\n010000\n060000\n0D0101\n030001\n")
    ∷ whole (bytes "monitor m{var z0=2in 0..03;var b1=1in 0..1;keep true;try b1==1;try z0==001;method h0{waituntil(true){b1:=0;}}method Y1{waituntil(z0 mod 2==-1){z0:=0;}}method f2{waituntil((b1!=1)){if(b1==0){z0:=2;if(b1<1){b1:=b1+1;}else{b1:=0;}}}waituntil(false){if(b1>0){b1:=b1-1;}}}} " ++ ((13 ∷ []))) (bytes "0A0001\n0B0001\n040100\n0A0201\n0A0101\n050301\n")
    ∷ whole (bytes "monitor m{var x0=2in 001..2;var y1=2in 0..3;keep false&&!(y1 mod-2==1)||false&&x0 mod-999>1||(y1==2)&&-7mod-1!=-1;try y1!=1;try!(y1<=3);method d0{waituntil(y1>0){x0:=001;}}method B1{waituntil(x0+y1<=0){y1:=x0;}}}") ([])
    ∷ whole (bytes "monitor m { var X0 = 2 in - 1 .. 2 ; keep true ; method a0 { waituntil ( X0 != - 1 ) { X0 := X0 - 1 ; } } method h1 { waituntil ( X0 != 02 ) { X0 := 2 ; } waituntil ( X0 != - 01 ) { } } method e2 { waituntil ( X0 != - 1 ) { X0 := X0 - 1 ; } } }") (bytes "080100\n0A0100\n050301\n080101\n080201\n")
    ∷ whole (bytes "monitor m{var y0=0in 0..2;keep true;method a0{waituntil(y0 mod 02==001){y0:=0;}waituntil(y0 mod 002==1){y0:=y0-1;}}method B1{waituntil(y0!=2){y0:=y0+1;}}method B2{waituntil(y0 mod 002==001){}}}!= " ++ ((13 ∷ []) ++ (bytes "!{ \ntry" ++ ((13 ∷ 13 ∷ []) ++ (bytes "1" ++ ((13 ∷ []) ++ (bytes "  1 b\n" ++ ((13 ∷ 13 ∷ []) ++ (bytes "true " ++ ((9 ∷ []) ++ (bytes " (" ++ ((9 ∷ 13 ∷ []) ++ (bytes "x 0y true True 007Monitor! <  \nfalse " ++ ((13 ∷ 13 ∷ []) ++ (bytes "==\n \n0 in-mod x} keep:=if b" ++ ((9 ∷ []) ++ (bytes ":=\nx" ++ ((13 ∷ []) ++ (bytes "m var keep" ++ ((13 ∷ []) ++ (bytes "128keep" ++ ((13 ∷ []) ++ (bytes " method> " ++ ((9 ∷ []) ++ (bytes "method" ++ ((9 ∷ []) ++ (bytes "m|| " ++ ((9 ∷ []) ++ (bytes "&&var 1 00" ++ ((13 ∷ 9 ∷ []) ++ (bytes "\ny\n" ++ ((13 ∷ []) ++ (bytes " 999" ++ ((13 ∷ []) ++ (bytes "  ; " ++ ((13 ∷ []) ++ (bytes "1keep\nvar  Z9+True " ++ ((13 ∷ []) ++ (bytes " y  " ++ ((13 ∷ []) ++ (bytes "monitor else " ++ ((13 ∷ 9 ∷ []) ++ (bytes "Z9 " ++ ((13 ∷ []) ++ (bytes "\n{<=" ++ ((9 ∷ []) ++ (bytes "x_1" ++ ((13 ∷ []) ++ (bytes "Z9  != " ++ ((9 ∷ []) ++ (bytes "else!x_1 00=<= " ++ ((9 ∷ []) ++ (bytes "\n+waituntil" ++ ((9 ∷ 9 ∷ []) ++ (bytes " <=true waituntil waituntil " ++ ((13 ∷ []) ++ (bytes "monitor  !=\n" ++ ((9 ∷ []) ++ (bytes " =\n Z9" ++ ((13 ∷ []) ++ (bytes " 2  ==2 " ++ ((9 ∷ 9 ∷ []) ++ (bytes "||  monitor+ ==method&&&& m.." ++ ((9 ∷ []) ++ (bytes "\n\n>= " ++ ((9 ∷ []) ++ (bytes " +if in==" ++ ((13 ∷ 13 ∷ []) ++ (bytes " if" ++ ((9 ∷ []) ++ (bytes "b " ++ ((9 ∷ []) ++ (bytes " 007   m" ++ ((13 ∷ []) ++ (bytes "monitor" ++ ((13 ∷ []) ++ (bytes "!=  \n007" ++ ((9 ∷ 9 ∷ []) ++ (bytes " +x_1\nkeep " ++ ((13 ∷ []) ++ (bytes "0y<=!!=method" ++ ((9 ∷ []) ++ (bytes "method" ++ ((13 ∷ []) ++ (bytes " x_1! }" ++ ((13 ∷ []) ++ (bytes " >" ++ ((13 ∷ []) ++ (bytes " )x 128Monitor 999Monitor   ....  \nwaituntil false " ++ ((9 ∷ []) ++ (bytes " y Monitor" ++ ((13 ∷ []) ++ (bytes "a\nmod!" ++ ((9 ∷ []) ++ (bytes "false if" ++ ((9 ∷ []) ++ (bytes " " ++ ((13 ∷ []) ++ (bytes "method  method" ++ ((9 ∷ 13 ∷ []) ++ (bytes "\nin monitor!= +:=try" ++ ((13 ∷ []) ++ (bytes "waituntil:=&&var" ++ ((9 ∷ []) ++ (bytes "waituntil.." ++ ((9 ∷ 13 ∷ []) ++ (bytes "\n..x " ++ ((13 ∷ []) ++ (bytes " else" ++ ((13 ∷ []) ++ (bytes " y{\n &&||a mod  true " ++ ((13 ∷ []) ++ (bytes "\nif " ++ ((13 ∷ 13 ∷ []) ++ (bytes "00in" ++ ((13 ∷ []) ++ (bytes " <)method\n\nmethod " ++ ((13 ∷ []) ++ (bytes "\n2 ||)>   999" ++ ((9 ∷ []) ++ (bytes "0a  ==  if  " ++ ((9 ∷ []) ++ (bytes ";y x_1\nvar " ++ ((9 ∷ []) ++ (bytes " waituntil\n\nmethod  0=True" ++ ((13 ∷ []) ++ (bytes " " ++ ((13 ∷ []) ++ (bytes "!=" ++ ((9 ∷ []) ++ (bytes "-y" ++ ((9 ∷ []) ++ (bytes "method" ++ ((13 ∷ []) ++ (bytes "<" ++ ((13 ∷ []) ++ (bytes "  :=" ++ ((13 ∷ []) ++ (bytes "\n True" ++ ((9 ∷ []) ++ (bytes "monitor>=  =waituntil=) " ++ ((9 ∷ []) ++ (bytes " ;&&" ++ ((9 ∷ []) ++ (bytes "in\n monitor<= " ++ ((9 ∷ []) ++ (bytes "=" ++ ((13 ∷ []) ++ (bytes "Monitor\nMonitor+ waituntil" ++ ((9 ∷ []) ++ (bytes "try<= \n\nmonitor\n else&&   -" ++ ((13 ∷ []) ++ (bytes "\n:=  \n007  ||" ++ ((9 ∷ []) ++ (bytes "<" ++ ((13 ∷ []) ++ (bytes ">=True y else b" ++ ((13 ∷ 9 ∷ []) ++ (bytes " x_1" ++ ((9 ∷ 13 ∷ []) ++ (bytes "Z9!!=" ++ ((13 ∷ []) ++ (bytes "))try " ++ ((13 ∷ []) ++ (bytes "\n(y  " ++ ((13 ∷ []) ++ (bytes "&&true=True:=\n\nif" ++ ((13 ∷ []) ++ (bytes "monitor" ++ ((9 ∷ []) ++ (bytes " waituntil\n  ..Z9" ++ ((13 ∷ 13 ∷ []) ++ (bytes "if<=2  1\n0  \n127;..m y" ++ ((9 ∷ []) ++ (bytes "waituntil:=.. " ++ ((13 ∷ []) ++ (bytes "x " ++ ((13 ∷ []) ++ (bytes "< \nmod" ++ ((9 ∷ 13 ∷ []) ++ (bytes " True" ++ ((9 ∷ []) ++ (bytes "true>= \nmod" ++ ((13 ∷ []) ++ (bytes "keep  mod True;\nx \nin" ++ ((9 ∷ []) ++ (bytes "try" ++ ((9 ∷ 13 ∷ 9 ∷ []) ++ (bytes "m\n :=" ++ ((9 ∷ []) ++ (bytes "b:=var;var" ++ ((9 ∷ []) ++ (bytes "  else)||" ++ ((13 ∷ 13 ∷ []) ++ (bytes " 007true" ++ ((9 ∷ []) ++ (bytes "= :={{\n128<\n \n==>&&x=" ++ ((13 ∷ []) ++ (bytes "mod" ++ ((13 ∷ []) ++ (bytes " \nfalse " ++ ((9 ∷ []) ++ (bytes " true\ntrue waituntil-!=" ++ ((9 ∷ []) ++ (bytes " ||..  true==" ++ ((9 ∷ []) ++ (bytes " " ++ ((13 ∷ []) ++ (bytes "; \n monitor" ++ ((13 ∷ []) ++ (bytes "127" ++ ((9 ∷ []) ++ (bytes " " ++ ((9 ∷ []) ++ (bytes "..a " ++ ((9 ∷ []) ++ (bytes "Monitor" ++ ((9 ∷ []) ++ (bytes "mod)a" ++ ((9 ∷ []) ++ (bytes "x_1  \n;var\n" ++ ((9 ∷ []) ++ (bytes "false" ++ ((9 ∷ 13 ∷ 9 ∷ []) ++ (bytes "2 false" ++ ((13 ∷ []) ++ (bytes " " ++ ((13 ∷ []) ++ (bytes "..false " ++ ((13 ∷ 13 ∷ []) ++ (bytes "a " ++ ((9 ∷ []) ++ (bytes "in 00if( " ++ ((9 ∷ 9 ∷ []) ++ (bytes "b)||" ++ ((13 ∷ []) ++ (bytes "\nmethod \nelse" ++ ((13 ∷ []) ++ (bytes "false" ++ ((13 ∷ []) ++ (bytes "<=0method\n" ++ ((13 ∷ 13 ∷ []) ++ (bytes "a  " ++ ((13 ∷ []) ++ (bytes "007 \n }2in" ++ ((9 ∷ 9 ∷ []) ++ (bytes " true" ++ ((13 ∷ []) ++ (bytes "x_1 \nin  >\n\n\nZ9>==127" ++ ((13 ∷ []) ++ (bytes "false" ++ ((9 ∷ []) ++ (bytes "x_1<-;waituntil 128>- " ++ ((9 ∷ []) ++ (bytes ">=}   =\nfalse\n Monitor== }var" ++ ((13 ∷ 9 ∷ []) ++ (bytes " ; \n" ++ ((13 ∷ []) ++ (bytes "= var(monitor  999waituntil{ (method-" ++ ((9 ∷ 9 ∷ []) ++ (bytes "Monitor \n\n( :=  True=  " ++ ((13 ∷ []) ++ (bytes ">=\n" ++ ((9 ∷ []) ++ (bytes " if\nmethod waituntil var!=keep" ++ ((13 ∷ []) ++ (bytes "m " ++ ((13 ∷ []) ++ (bytes ";in >=" ++ ((9 ∷ []) ++ (bytes "..!=1!=" ++ ((9 ∷ []) ++ (bytes " !..a=\n\n if\n" ++ ((9 ∷ 13 ∷ []) ++ (bytes "b" ++ ((13 ∷ []) ++ (bytes "999" ++ ((9 ∷ []) ++ (bytes "x>=127   keep true\n\n in-x\n\n=in" ++ ((9 ∷ []) ++ (bytes "m\nwaituntil 2waituntil monitor\ny" ++ ((9 ∷ []) ++ (bytes " x_1 Z9 " ++ ((9 ∷ []) ++ (bytes "else false a..a\nin y\n2" ++ ((9 ∷ 13 ∷ []) ++ (bytes "\n}x   =" ++ ((13 ∷ 9 ∷ []) ++ (bytes "1{" ++ ((13 ∷ []) ++ (bytes "  ||mod&&try x_1\ntrue true" ++ ((9 ∷ []) ++ (bytes "  True" ++ ((13 ∷ 13 ∷ 9 ∷ []) ++ (bytes "Monitor>= " ++ ((13 ∷ []) ++ (bytes "mod..! -2" ++ ((13 ∷ []) ++ (bytes " " ++ ((9 ∷ []) ++ (bytes "!=" ++ ((9 ∷ []) ++ (bytes "\n in!+>=&&  keep >True!!Z9   x=Monitor>= var  :=)  " ++ ((9 ∷ []) ++ (bytes "128(false if x 00=else" ++ ((13 ∷ []) ++ (bytes " if }..\n " ++ ((13 ∷ []) ++ (bytes "true " ++ ((9 ∷ []) ++ (bytes "m" ++ ((13 ∷ []) ++ (bytes " Monitor " ++ ((9 ∷ []) ++ (bytes "b==" ++ ((13 ∷ []) ++ (bytes " 00\nin  " ++ ((13 ∷ []) ++ (bytes "method waituntil;<" ++ ((9 ∷ []) ++ (bytes "\n\nmod" ++ ((9 ∷ []) ++ (bytes "b" ++ ((9 ∷ []) ++ (bytes " !<>=\n " ++ ((9 ∷ []) ++ (bytes ")" ++ ((9 ∷ 9 ∷ []) ++ (bytes "try" ++ ((13 ∷ []) ++ (bytes "  <= if+  Monitor)" ++ ((9 ∷ 9 ∷ []) ++ (bytes "\nx\nx_1   (" ++ ((9 ∷ []) ++ (bytes "\n\n128!=else" ++ ((9 ∷ []) ++ (bytes "1if if:=)" ++ ((9 ∷ 9 ∷ []) ++ (bytes "True \n\n>=  in " ++ ((9 ∷ 9 ∷ []) ++ (bytes "mod x_1\nmonitor " ++ ((9 ∷ 9 ∷ []) ++ (bytes "&&\n007||! keep" ++ ((9 ∷ []) ++ (bytes "||;Monitor" ++ ((9 ∷ []) ++ (bytes "\n1 \n00\ntrue" ++ ((13 ∷ []) ++ (bytes "= " ++ ((9 ∷ 9 ∷ []) ++ (bytes "var" ++ ((13 ∷ []) ++ (bytes "\n" ++ ((13 ∷ []) ++ (bytes "y" ++ ((13 ∷ []) ++ (bytes " -   007monitor\n;" ++ ((13 ∷ 13 ∷ 13 ∷ []) ++ (bytes "!=   else:=  false\n\n || \n" ++ ((13 ∷ []) ++ (bytes "waituntil in<+ " ++ ((13 ∷ []) ++ (bytes "x " ++ ((9 ∷ []) ++ (bytes " ..Z9  )>}  \n}Z9" ++ ((9 ∷ []) ++ (bytes "+ " ++ ((9 ∷ []) ++ (bytes "<;" ++ ((13 ∷ 13 ∷ 9 ∷ []) ++ (bytes "(else y  method" ++ ((9 ∷ 9 ∷ []) ++ (bytes "\n>= " ++ ((13 ∷ []) ++ (bytes " True < " ++ ((9 ∷ []) ++ (bytes "mod Z9 b<= \n m" ++ ((9 ∷ []) ++ (bytes "||!= " ++ ((9 ∷ []) ++ (bytes " +\n " ++ ((13 ∷ []) ++ (bytes "..true" ++ ((13 ∷ []) ++ (bytes "x_1" ++ ((9 ∷ []) ++ (bytes "128if" ++ ((13 ∷ 9 ∷ []) ++ (bytes " Z9" ++ ((13 ∷ []) ++ (bytes "\nin in waituntil:=<=true " ++ ((13 ∷ []) ++ (bytes "<method mod\n" ++ ((13 ∷ []) ++ (bytes "Monitor\n >\nmod \n\n||keep" ++ ((13 ∷ 9 ∷ []) ++ (bytes "\nmonitor=<Z9 " ++ ((13 ∷ []) ++ (bytes " 128b :=var " ++ ((9 ∷ []) ++ (bytes "\nmethod+  waituntil+x_1" ++ ((9 ∷ []) ++ (bytes " " ++ ((9 ∷ []) ++ (bytes "=(if\n m" ++ ((13 ∷ []) ++ (bytes "True" ++ ((13 ∷ []) ++ (bytes "007<var 00\n =y&&  " ++ ((13 ∷ []) ++ (bytes "{+.. monitor" ++ ((9 ∷ 13 ∷ 13 ∷ []) ++ (bytes "..var  :=+\n" ++ ((13 ∷ []) ++ (bytes " != m " ++ ((13 ∷ 13 ∷ []) ++ (bytes "true\na( \n&&{m \na\n  999 " ++ ((13 ∷ []) ++ (bytes "Z9 mod{-00 =>  ||(" ++ ((9 ∷ []) ++ (bytes "-127\n 0!  if x_1\n  false+" ++ ((13 ∷ []) ++ (bytes " y  \n128" ++ ((9 ∷ []) ++ (bytes " )\n&& 127 m&&\n=a)\nb&&else-" ++ ((13 ∷ []) ++ (bytes "127 < \nZ9 \n keep" ++ ((13 ∷ []) ++ (bytes " \n00 \n" ++ ((13 ∷ []) ++ (bytes "<+var..==\n999Monitor\nelse method" ++ ((9 ∷ []) ++ (bytes "y" ++ ((13 ∷ []) ++ (bytes "false" ++ ((13 ∷ []) ++ (bytes " " ++ ((13 ∷ []) ++ (bytes "Z9)\n && 127 ;>" ++ ((13 ∷ []) ++ (bytes "\n =  00 " ++ ((9 ∷ 13 ∷ []) ++ (bytes "+True!  True" ++ ((9 ∷ []) ++ (bytes " 0 x_1" ++ ((9 ∷ []) ++ (bytes "Z9 128  Z9:=m<128 +if\n\n" ++ ((13 ∷ []) ++ (bytes "false 128!b try<   x_1" ++ ((13 ∷ []) ++ (bytes "waituntil\nTrue==<" ++ ((9 ∷ []) ++ (bytes " " ++ ((9 ∷ []) ++ (bytes "method -" ++ ((9 ∷ []) ++ (bytes "\n True;y\n\n x_1..var true" ++ ((13 ∷ []) ++ (bytes "else" ++ ((13 ∷ []) ++ (bytes "true" ++ ((9 ∷ []) ++ (bytes " 007  \n2 ;method method\n false" ++ ((9 ∷ []) ++ (bytes " }\n " ++ ((13 ∷ []) ++ (bytes "method\n \n00" ++ ((13 ∷ []) ++ (bytes "  007" ++ ((13 ∷ []) ++ (bytes "Monitor \n" ++ ((13 ∷ []) ++ (bytes "&&" ++ ((13 ∷ []) ++ (bytes " 1 " ++ ((9 ∷ []) ++ (bytes " {var" ++ ((9 ∷ []) ++ (bytes " m<=waituntil>=b}>=&&!! 999" ++ ((9 ∷ []) ++ (bytes "  in" ++ ((13 ∷ []) ++ (bytes " in\n  false\nelse" ++ ((13 ∷ []) ++ (bytes " 007keep " ++ ((9 ∷ []) ++ (bytes "True True\ntrue!=in" ++ ((13 ∷ []) ++ (bytes " " ++ ((13 ∷ []) ++ (bytes "waituntil " ++ ((13 ∷ []) ++ (bytes "\n007 128b..\n >=x \n\nwaituntil a  =&&&&) mod Monitor" ++ ((13 ∷ []) ++ (bytes "y" ++ ((9 ∷ []) ++ (bytes "  ( " ++ ((9 ∷ []) ++ (bytes " +\n=   ((waituntil m\n  false Monitor" ++ ((13 ∷ []) ++ (bytes "999 =" ++ ((13 ∷ []) ++ (bytes "  in try<" ++ ((13 ∷ 13 ∷ []) ++ (bytes "else " ++ ((13 ∷ []) ++ (bytes "method" ++ ((9 ∷ []) ++ (bytes "method:=-  " ++ ((9 ∷ []) ++ (bytes ">x_1-y " ++ ((9 ∷ []) ++ (bytes " method" ++ ((13 ∷ []) ++ (bytes "in  monitor\nZ9   <" ++ ((9 ∷ 9 ∷ []) ++ (bytes "keep" ++ ((13 ∷ 9 ∷ 9 ∷ []) ++ (bytes "true" ++ ((13 ∷ []) ++ (bytes "try" ++ ((9 ∷ []) ++ (bytes "\n..  128  { " ++ ((9 ∷ []) ++ (bytes "y" ++ ((9 ∷ 13 ∷ []) ++ (bytes "} \n waituntil monitor" ++ ((13 ∷ 13 ∷ []) ++ (bytes "x_1" ++ ((13 ∷ []) ++ (bytes "true!=x_1 " ++ ((13 ∷ 9 ∷ []) ++ (bytes "<in " ++ ((9 ∷ []) ++ (bytes " b  >=b  \n< \n" ++ ((9 ∷ []) ++ (bytes "false<=" ++ ((13 ∷ []) ++ (bytes " keep  " ++ ((9 ∷ []) ++ (bytes "007  \ntry" ++ ((9 ∷ []) ++ (bytes "true \n" ++ ((9 ∷ []) ++ (bytes "127 007 ==monitor !\nx" ++ ((13 ∷ []) ++ (bytes "127keep var|| " ++ ((13 ∷ []) ++ (bytes "\na" ++ ((9 ∷ []) ++ (bytes "Z9  1 \n<var \n monitor" ++ ((9 ∷ []) ++ (bytes "method;true" ++ ((9 ∷ []) ++ (bytes "y= " ++ ((9 ∷ 13 ∷ []) ++ (bytes "false  " ++ ((9 ∷ []) ++ (bytes "var Z9\nTrue  " ++ ((13 ∷ []) ++ (bytes "x_1=(  ||x_1!:=)else   a " ++ ((13 ∷ []) ++ (bytes "<2>-false>=0else" ++ ((9 ∷ 13 ∷ []) ++ (bytes " )var!=mod" ++ ((9 ∷ []) ++ (bytes " y\n" ++ ((9 ∷ 13 ∷ []) ++ (bytes "else Monitor  007>=1 " ++ ((9 ∷ []) ++ (bytes " !=..try" ++ ((13 ∷ []) ++ (bytes "  x monitor mod method " ++ ((9 ∷ []) ++ (bytes "1 \n<===" ++ ((9 ∷ 9 ∷ []) ++ (bytes "..if " ++ ((13 ∷ []) ++ (bytes "\ntrue}y waituntil" ++ ((9 ∷ []) ++ (bytes "\ny" ++ ((13 ∷ []) ++ (bytes " Monitor>||128\n" ++ ((9 ∷ []) ++ (bytes "try" ++ ((9 ∷ 9 ∷ []) ++ (bytes "y" ++ ((9 ∷ []) ++ (bytes " else" ++ ((13 ∷ []) ++ (bytes "007" ++ ((9 ∷ []) ++ (bytes " 127!>=waituntil" ++ ((9 ∷ []) ++ (bytes "!=true Z9 b" ++ ((13 ∷ 13 ∷ []) ++ (bytes "-" ++ ((9 ∷ 9 ∷ []) ++ (bytes "<=" ++ ((13 ∷ 9 ∷ []) ++ (bytes " >===method  !=waituntil" ++ ((9 ∷ []) ++ (bytes "\n2  method-a" ++ ((13 ∷ []) ++ (bytes "if" ++ ((13 ∷ []) ++ (bytes "method\n\n" ++ ((9 ∷ []) ++ (bytes ";var\n" ++ ((13 ∷ []) ++ (bytes "\nin method  if!=! y+128<false " ++ ((9 ∷ []) ++ (bytes "false" ++ ((13 ∷ []) ++ (bytes "mod" ++ ((9 ∷ []) ++ (bytes "  y " ++ ((13 ∷ []) ++ (bytes " Monitor" ++ ((13 ∷ []) ++ (bytes "y " ++ ((9 ∷ 13 ∷ []) ++ (bytes "Monitor  (0\n00 if" ++ ((9 ∷ []) ++ (bytes ">" ++ ((9 ∷ 9 ∷ []) ++ (bytes " ||" ++ ((9 ∷ 13 ∷ []) ++ (bytes " 127b \ntry" ++ ((9 ∷ []) ++ (bytes "monitor\nif" ++ ((9 ∷ 9 ∷ []) ++ (bytes "!=x" ++ ((9 ∷ []) ++ (bytes " True" ++ ((9 ∷ 9 ∷ []) ++ (bytes "1\n" ++ ((13 ∷ 9 ∷ []) ++ (bytes "var" ++ ((9 ∷ []) ++ (bytes "\n b  " ++ ((9 ∷ []) ++ (bytes "x&&\n..=1" ++ ((13 ∷ []) ++ (bytes "\n..in True \n try True\n127 \n1" ++ ((9 ∷ []) ++ (bytes "x=if:= x else||try>=   b True ) x_1   999" ++ ((9 ∷ 9 ∷ []) ++ (bytes " 128+{\n b waituntil(\n Monitor Z9" ++ ((9 ∷ []) ++ (bytes "y" ++ ((9 ∷ []) ++ (bytes " Monitor " ++ ((13 ∷ []) ++ (bytes " m(m\n}monitor \nfalse" ++ ((9 ∷ []) ++ (bytes "}){ \n waituntil   x_1..! try  try " ++ ((9 ∷ []) ++ (bytes " 00else" ++ ((9 ∷ 9 ∷ 13 ∷ []) ++ (bytes "in" ++ ((13 ∷ []) ++ (bytes "  =a try " ++ ((9 ∷ 9 ∷ []) ++ (bytes "+monitor\n \nkeep if  monitor\n" ++ ((9 ∷ 13 ∷ []) ++ (bytes "==" ++ ((13 ∷ []) ++ (bytes "\nwaituntil monitor  mod" ++ ((9 ∷ 9 ∷ []) ++ (bytes "\n-" ++ ((9 ∷ 9 ∷ 13 ∷ []) ++ (bytes ":=" ++ ((13 ∷ []) ++ (bytes "in" ++ ((9 ∷ []) ++ (bytes " - true >=  " ++ ((9 ∷ []) ++ (bytes "True :=var\nin else  !" ++ ((9 ∷ 9 ∷ []) ++ (bytes "var monitor>x" ++ ((13 ∷ []) ++ (bytes "Monitor\n007  -0 " ++ ((9 ∷ []) ++ (bytes " m " ++ ((13 ∷ []) ++ (bytes "= -&&keep m+y\n  - a \n{y + \ny method:=}waituntil!\n" ++ ((9 ∷ []) ++ (bytes "\n0" ++ ((13 ∷ []) ++ (bytes ">=" ++ ((9 ∷ 9 ∷ []) ++ (bytes "{keep" ++ ((13 ∷ []) ++ (bytes "\ntry   waituntil\n\n" ++ ((9 ∷ []) ++ (bytes "1\n\n" ++ ((13 ∷ []) ++ (bytes "false 00else" ++ ((13 ∷ 9 ∷ []) ++ (bytes " method" ++ ((9 ∷ []) ++ (bytes "  x_1 monitor   True method:=\n " ++ ((13 ∷ []) ++ (bytes "{a\n " ++ ((9 ∷ []) ++ (bytes "in method" ++ ((9 ∷ []) ++ (bytes "a<=" ++ ((13 ∷ []) ++ (bytes " y" ++ ((9 ∷ 9 ∷ []) ++ (bytes " 0x\nZ9> 00 " ++ ((13 ∷ []) ++ (bytes "keep\n ;!\n" ++ ((13 ∷ []) ++ (bytes " 2" ++ ((9 ∷ []) ++ (bytes "007&&" ++ ((13 ∷ []) ++ (bytes "  Monitor(else\n  if!= try<monitor\n" ++ ((13 ∷ 13 ∷ []) ++ (bytes "true" ++ ((9 ∷ []) ++ (bytes "if  " ++ ((13 ∷ []) ++ (bytes "==00)  " ++ ((13 ∷ []) ++ (bytes "mod" ++ ((9 ∷ []) ++ (bytes "  method  2var" ++ ((13 ∷ []) ++ (bytes "(.." ++ ((9 ∷ 13 ∷ []) ++ (bytes " -m" ++ ((9 ∷ []) ++ (bytes "try =999method" ++ ((13 ∷ []) ++ (bytes "true" ++ ((9 ∷ []) ++ (bytes "keep\nwaituntil" ++ ((9 ∷ []) ++ (bytes "y" ++ ((13 ∷ 13 ∷ 13 ∷ []) ++ (bytes "try+\n  &&==method\n" ++ ((13 ∷ []) ++ (bytes "if\n \n<007 " ++ ((13 ∷ []) ++ (bytes "00&& a" ++ ((9 ∷ []) ++ (bytes "in" ++ ((13 ∷ 9 ∷ 13 ∷ []) ++ (bytes "( \n Z9\n " ++ ((9 ∷ []) ++ (bytes "! ==007x_1" ++ ((9 ∷ []) ++ (bytes "if" ++ ((9 ∷ []) ++ (bytes "||true:=" ++ ((9 ∷ []) ++ (bytes "Z9" ++ ((13 ∷ []) ++ (bytes " var" ++ ((13 ∷ 13 ∷ []) ++ (bytes "{" ++ ((9 ∷ []) ++ (bytes " try method" ++ ((13 ∷ []) ++ (bytes "\n !" ++ ((13 ∷ []) ++ (bytes "\n)waituntil:=\n2waituntil\nvar  !=" ++ ((9 ∷ []) ++ (bytes "= =var " ++ ((13 ∷ []) ++ (bytes "\nb >else>" ++ ((13 ∷ 9 ∷ []) ++ (bytes "\nMonitor >method 127 (  \nvar)>x " ++ ((9 ∷ []) ++ (bytes "0\n\nelse  keep" ++ ((13 ∷ []) ++ (bytes "\n" ++ ((9 ∷ []) ++ (bytes "; " ++ ((9 ∷ []) ++ (bytes "( (" ++ ((9 ∷ []) ++ (bytes "+keep" ++ ((13 ∷ []) ++ (bytes "else!..\n>={" ++ ((9 ∷ 13 ∷ []) ++ (bytes "; " ++ ((13 ∷ []) ++ (bytes "+" ++ ((9 ∷ []) ++ (bytes "007 -" ++ ((13 ∷ []) ++ (bytes "|| ||:=a" ++ ((13 ∷ 9 ∷ []) ++ (bytes "keep\nm\n false" ++ ((9 ∷ []) ++ (bytes "Z9 if:= y" ++ ((13 ∷ []) ++ (bytes " method\n00  " ++ ((13 ∷ []) ++ (bytes "true " ++ ((13 ∷ []) ++ (bytes " in\na   !a.. " ++ ((9 ∷ []) ++ (bytes "Monitor;monitor\n monitor" ++ ((9 ∷ []) ++ (bytes "keep&&" ++ ((13 ∷ []) ++ (bytes "  - " ++ ((9 ∷ []) ++ (bytes "Monitor if\n" ++ ((13 ∷ []) ++ (bytes "1   monitor " ++ ((13 ∷ 9 ∷ []) ++ (bytes "method+0in mod m!= var<=   Z9" ++ ((9 ∷ []) ++ (bytes "monitor" ++ ((9 ∷ []) ++ (bytes "<=m   true in" ++ ((9 ∷ 9 ∷ 9 ∷ []) ++ (bytes "else||x_1\n -<=!=true " ++ ((9 ∷ []) ++ (bytes "-2true\n&&" ++ ((9 ∷ []) ++ (bytes " " ++ ((13 ∷ []) ++ (bytes "..= Z9<m" ++ ((13 ∷ []) ++ (bytes " " ++ ((9 ∷ []) ++ (bytes "else" ++ ((9 ∷ []) ++ (bytes "x !Monitor false>=!=" ++ ((13 ∷ []) ++ (bytes "} = \n" ++ ((9 ∷ []) ++ (bytes "y  \n{True" ++ ((13 ∷ []) ++ (bytes "Z9\n ==else- " ++ ((9 ∷ []) ++ (bytes "\nelse= " ++ ((9 ∷ []) ++ (bytes ":=  " ++ ((9 ∷ []) ++ (bytes "2\n ! ==   { " ++ ((9 ∷ []) ++ (bytes "Z9   m!1   {= <(\n>127!Z9\n var" ++ ((9 ∷ []) ++ (bytes "999 }else" ++ ((9 ∷ []) ++ (bytes "  0true{ if)" ++ ((9 ∷ 9 ∷ []) ++ (bytes " ..waituntil" ++ ((9 ∷ 13 ∷ 13 ∷ []) ++ (bytes "128||" ++ ((9 ∷ []) ++ (bytes " \n>=128!=" ++ ((9 ∷ []) ++ (bytes " \n||>=else== " ++ ((13 ∷ []) ++ (bytes "(!= 00!=  x a\nkeep" ++ ((9 ∷ []) ++ (bytes "if x" ++ ((13 ∷ []) ++ (bytes "<  " ++ ((13 ∷ []) ++ (bytes "in in" ++ ((9 ∷ []) ++ (bytes "999{\nZ9\n" ++ ((9 ∷ []) ++ (bytes " x_1\nwaituntil\nmethod  :=method" ++ ((9 ∷ []) ++ (bytes "x_1" ++ ((9 ∷ []) ++ (bytes "Z9||&&Z9<= \n&&monitor" ++ ((13 ∷ []) ++ (bytes "\n )" ++ ((9 ∷ 13 ∷ []) ++ (bytes " {\n\n&& " ++ ((13 ∷ []) ++ (bytes "==" ++ ((13 ∷ []) ++ (bytes " " ++ ((9 ∷ []) ++ (bytes "try waituntil 0) " ++ ((9 ∷ 13 ∷ []) ++ (bytes "<m=0waituntil" ++ ((13 ∷ []) ++ (bytes "  m" ++ ((13 ∷ []) ++ (bytes "\n y" ++ ((9 ∷ []) ++ (bytes "x-{monitor false " ++ ((9 ∷ []) ++ (bytes "\n>" ++ ((9 ∷ []) ++ (bytes "==" ++ ((9 ∷ []) ++ (bytes "\n||!=Monitor\nZ9{||999Z9 >={)<" ++ ((13 ∷ []) ++ (bytes " a(\n" ++ ((13 ∷ []) ++ (bytes "\n}==2 1" ++ ((13 ∷ []) ++ (bytes "\n" ++ ((9 ∷ []) ++ (bytes "true" ++ ((13 ∷ 9 ∷ 9 ∷ []) ++ (bytes "..}b\n127:=True" ++ ((9 ∷ []) ++ (bytes "  try" ++ ((9 ∷ []) ++ (bytes "if" ++ ((9 ∷ []) ++ (bytes "keep \nmonitor \n" ++ ((13 ∷ []) ++ (bytes ":= +else\n999 \n127   ..}" ++ ((9 ∷ []) ++ (bytes "True" ++ ((9 ∷ []) ++ (bytes "Z9\ntrue  +false " ++ ((13 ∷ []) ++ (bytes "var else m var\ntry> \n&&var  \nZ9+127var method var <=\n waituntil..)<; !m&&waituntil  " ++ ((9 ∷ []) ++ (bytes "else \n mod" ++ ((13 ∷ []) ++ (bytes "True\nfalse" ++ ((13 ∷ []) ++ (bytes "&&x_1>" ++ ((9 ∷ []) ++ (bytes "\n== " ++ ((9 ∷ 13 ∷ []) ++ (bytes "}x_1)128+}  !   waituntil  \n>false\n" ++ ((13 ∷ 13 ∷ []) ++ (bytes "&&2" ++ ((13 ∷ 9 ∷ []) ++ (bytes "method==   monitor" ++ ((9 ∷ []) ++ (bytes "(\n" ++ ((13 ∷ []) ++ (bytes "m=+   b{m" ++ ((9 ∷ []) ++ (bytes " +\n00||+" ++ ((13 ∷ []) ++ (bytes "\n Z9>=\n " ++ ((9 ∷ []) ++ (bytes ":=127;}  Z9  >" ++ ((13 ∷ []) ++ (bytes "< " ++ ((13 ∷ []) ++ (bytes ":=00 <=var==" ++ ((9 ∷ []) ++ (bytes " try  " ++ ((9 ∷ []) ++ (bytes "&&" ++ ((13 ∷ []) ++ (bytes ".." ++ ((9 ∷ 9 ∷ []) ++ (bytes " if a" ++ ((13 ∷ []) ++ (bytes "try!=" ++ ((9 ∷ []) ++ (bytes " True 00 \n" ++ ((9 ∷ []) ++ (bytes "else waituntil" ++ ((9 ∷ []) ++ (bytes ">= \n <=!" ++ ((13 ∷ []) ++ (bytes " var " ++ ((9 ∷ 9 ∷ []) ++ (bytes "128\n\nZ9\n" ++ ((9 ∷ []) ++ (bytes "\nin\n 00" ++ ((13 ∷ []) ++ (bytes "\nin\n !=  Monitor  " ++ ((13 ∷ []) ++ (bytes "==var waituntil  " ++ ((9 ∷ []) ++ (bytes "Monitor mod  \n<..{!= else if" ++ ((13 ∷ 13 ∷ []) ++ (bytes "\ntrue" ++ ((9 ∷ []) ++ (bytes " " ++ ((9 ∷ []) ++ (bytes "<=>a  " ++ ((9 ∷ []) ++ (bytes "method" ++ ((9 ∷ 9 ∷ []) ++ (bytes "True )false!==\nif" ++ ((13 ∷ []) ++ (bytes ">=+keep{<" ++ ((13 ∷ []) ++ (bytes "==waituntil false<=Monitor" ++ ((13 ∷ []) ++ (bytes "false waituntil  127 1} \n" ++ ((9 ∷ []) ++ (bytes "<+2-" ++ ((9 ∷ []) ++ (bytes " keep   ..b  \nvar monitor" ++ ((13 ∷ []) ++ (bytes "1&&   monitor <== \nelse  " ++ ((13 ∷ []) ++ (bytes "x{ true a ;monitor else!:=!=else\n007 00(" ++ ((13 ∷ []) ++ (bytes ")monitor<=if\nmethod  }- x_1" ++ ((9 ∷ []) ++ (bytes "keep==( \n127x" ++ ((13 ∷ []) ++ (bytes " y  >=if{in{\n==m  " ++ ((13 ∷ []) ++ (bytes "keep Z9" ++ ((9 ∷ []) ++ (bytes "\ny keep\nkeep=Monitor keep try" ++ ((9 ∷ []) ++ (bytes "\n>if" ++ ((13 ∷ []) ++ (bytes "}Monitor\nvar true a-try " ++ ((13 ∷ 9 ∷ []) ++ (bytes "true " ++ ((13 ∷ []) ++ (bytes ")" ++ ((13 ∷ []) ++ (bytes " -" ++ ((9 ∷ []) ++ (bytes "<if " ++ ((13 ∷ []) ++ (bytes " monitor==try " ++ ((9 ∷ 13 ∷ []) ++ (bytes "method&&" ++ ((13 ∷ 13 ∷ 13 ∷ []) ++ (bytes "==x x\n" ++ ((9 ∷ []) ++ (bytes " if var" ++ ((13 ∷ []) ++ (bytes "a\n" ++ ((9 ∷ []) ++ (bytes "method - 00else " ++ ((9 ∷ []) ++ (bytes " method  " ++ ((13 ∷ []) ++ (bytes "0 ;a" ++ ((9 ∷ []) ++ (bytes ")" ++ ((13 ∷ 9 ∷ []) ++ (bytes "\n.." ++ ((9 ∷ []) ++ (bytes "  +if ==>|| \n)" ++ ((13 ∷ 13 ∷ []) ++ (bytes "keep " ++ ((9 ∷ []) ++ (bytes "127in\n(false)Monitor" ++ ((13 ∷ []) ++ (bytes "!=True+ \n1:=!:=" ++ ((9 ∷ 9 ∷ []) ++ (bytes "\n0\n 0True var else\n  Z9 y!" ++ ((13 ∷ []) ++ (bytes "Z9 \nin 007x >=try = x_1!Z9\n" ++ ((9 ∷ []) ++ (bytes "m  999 x 00false 0" ++ ((13 ∷ []) ++ (bytes " True" ++ ((13 ∷ 9 ∷ []) ++ (bytes " :=" ++ ((13 ∷ []) ++ (bytes "\n 00!=b  \n}true" ++ ((13 ∷ []) ++ (bytes " " ++ ((9 ∷ []) ++ (bytes "method:=..127in != " ++ ((9 ∷ []) ++ (bytes "\n( 007   <=>monitor<=>=" ++ ((9 ∷ []) ++ (bytes "\n&&monitor \n\n<=monitor" ++ ((9 ∷ []) ++ (bytes "in " ++ ((13 ∷ []) ++ (bytes " )128:=2b True else" ++ ((13 ∷ []) ++ (bytes ">=>" ++ ((9 ∷ []) ++ (bytes "\n" ++ ((13 ∷ []) ++ (bytes "&&&&" ++ ((9 ∷ []) ++ (bytes "\n" ++ ((9 ∷ []) ++ (bytes "+<= \n\nm\n\nwaituntil!" ++ ((9 ∷ []) ++ (bytes "y+" ++ ((13 ∷ []) ++ (bytes " ;<=True 2! (monitor True!=Z9\n Z9" ++ ((9 ∷ []) ++ (bytes " a a!\n" ++ ((9 ∷ []) ++ (bytes "y\n- else! >=||true x" ++ ((9 ∷ []) ++ (bytes "\n{(else" ++ ((9 ∷ []) ++ (bytes " var" ++ ((9 ∷ []) ++ (bytes "monitor \nfalse" ++ ((13 ∷ []) ++ (bytes "method " ++ ((13 ∷ []) ++ (bytes "Z9   false" ++ ((9 ∷ []) ++ (bytes "True" ++ ((9 ∷ []) ++ (bytes "false<===\n  monitor" ++ ((13 ∷ []) ++ (bytes "var" ++ ((9 ∷ []) ++ (bytes "else keep\n2<=\n{=&&" ++ ((13 ∷ []) ++ (bytes "  false||\n" ++ ((9 ∷ []) ++ (bytes "m \n True " ++ ((13 ∷ []) ++ (bytes "\n>=" ++ ((13 ∷ []) ++ (bytes " \nfalse (\nelse" ++ ((13 ∷ []) ++ (bytes "\n{" ++ ((9 ∷ []) ++ (bytes "mod>=  keep\n" ++ ((9 ∷ []) ++ (bytes "<monitor:=" ++ ((13 ∷ []) ++ (bytes " " ++ ((9 ∷ []) ++ (bytes "true x\n Z9 b<=" ++ ((13 ∷ []) ++ (bytes "Z9  \n..>" ++ ((9 ∷ []) ++ (bytes "!m " ++ ((9 ∷ []) ++ (bytes "Z9!in\n" ++ ((9 ∷ 13 ∷ []) ++ (bytes "-)b a ..)2" ++ ((13 ∷ []) ++ (bytes "!1}" ++ ((13 ∷ 9 ∷ []) ++ (bytes "false!= false" ++ ((13 ∷ []) ++ (bytes "0var x_1" ++ ((13 ∷ []) ++ (bytes "in{" ++ ((9 ∷ []) ++ (bytes " {" ++ ((9 ∷ []) ++ (bytes "keep  999\na\n" ++ ((9 ∷ []) ++ (bytes "999 <  var" ++ ((13 ∷ []) ++ (bytes "  mod" ++ ((13 ∷ []) ++ (bytes " {<= {{ " ++ ((13 ∷ []) ++ (bytes "True" ++ ((9 ∷ []) ++ (bytes "\n if\n" ++ ((9 ∷ []) ++ (bytes "! " ++ ((13 ∷ []) ++ (bytes " .." ++ ((13 ∷ []) ++ (bytes " m mod>=" ++ ((9 ∷ []) ++ (bytes "  b!=keep>=128try 999  :=<=var in>  ;Z9 mod" ++ ((9 ∷ []) ++ (bytes "\n !y-" ++ ((13 ∷ []) ++ (bytes "&&y" ++ ((13 ∷ []) ++ (bytes "; " ++ ((13 ∷ []) ++ (bytes " x_1 try  999 == m   127 True" ++ ((13 ∷ []) ++ (bytes "\n{<=mod " ++ ((9 ∷ []) ++ (bytes "\n{..a(!a-=\n ( \n;{" ++ ((13 ∷ []) ++ (bytes ">===" ++ ((13 ∷ []) ++ (bytes "  >" ++ ((9 ∷ []) ++ (bytes "999" ++ ((9 ∷ []) ++ (bytes "==y= " ++ ((13 ∷ []) ++ (bytes ":= Z9\n " ++ ((9 ∷ []) ++ (bytes ")false\n  True " ++ ((9 ∷ []) ++ (bytes " a-007>=b " ++ ((9 ∷ 13 ∷ []) ++ (bytes "b=" ++ ((13 ∷ []) ++ (bytes "+ " ++ ((9 ∷ []) ++ (bytes "1a>=   00  b " ++ ((13 ∷ []) ++ (bytes "-  " ++ ((9 ∷ []) ++ (bytes "Z9   a..else" ++ ((13 ∷ []) ++ (bytes "mod" ++ ((13 ∷ 9 ∷ []) ++ (bytes " mod" ++ ((13 ∷ []) ++ (bytes " var" ++ ((9 ∷ 9 ∷ []) ++ (bytes ")  x_1(" ++ ((13 ∷ []) ++ (bytes ":= false " ++ ((13 ∷ []) ++ (bytes "\n128 b  =\nvar" ++ ((13 ∷ []) ++ (bytes "keep " ++ ((13 ∷ []) ++ (bytes "y" ++ ((13 ∷ []) ++ (bytes "monitor" ++ ((9 ∷ []) ++ (bytes "m" ++ ((9 ∷ []) ++ (bytes "128{ try y!=monitor\n" ++ ((9 ∷ 13 ∷ []) ++ (bytes "x\nelse \nx_1\na\n&&\n  }a" ++ ((13 ∷ []) ++ (bytes "  <=\n" ++ ((13 ∷ 9 ∷ []) ++ (bytes "||else" ++ ((9 ∷ 13 ∷ []) ++ (bytes " ==" ++ ((9 ∷ []) ++ (bytes " m method)var" ++ ((9 ∷ []) ++ (bytes "128" ++ ((9 ∷ []) ++ (bytes "waituntil x){ =m \n ||True 00   x_1 y" ++ ((9 ∷ []) ++ (bytes "x" ++ ((9 ∷ 13 ∷ []) ++ (bytes ">=Z9" ++ ((13 ∷ 13 ∷ 9 ∷ []) ++ (bytes "x_1 " ++ ((13 ∷ []) ++ (bytes " { " ++ ((9 ∷ []) ++ (bytes "&&" ++ ((9 ∷ 9 ∷ []) ++ (bytes "Monitor  true" ++ ((13 ∷ []) ++ (bytes "  a try 1-" ++ ((9 ∷ []) ++ (bytes "  )\n " ++ ((13 ∷ []) ++ (bytes "==128keep false" ++ ((9 ∷ []) ++ (bytes "  false\ntrue x_1   }" ++ ((9 ∷ []) ++ (bytes " false" ++ ((13 ∷ []) ++ (bytes "x_1&&  x_1" ++ ((9 ∷ []) ++ (bytes "0->  \nx  >=keep" ++ ((13 ∷ 9 ∷ []) ++ (bytes "\nwaituntil " ++ ((13 ∷ []) ++ (bytes "m  >=)false  " ++ ((13 ∷ []) ++ (bytes "-b\n\nMonitor" ++ ((9 ∷ []) ++ (bytes "Monitor " ++ ((13 ∷ []) ++ (bytes "x 999}" ++ ((13 ∷ 13 ∷ []) ++ (bytes " waituntil " ++ ((9 ∷ []) ++ (bytes "\nvar" ++ ((9 ∷ 13 ∷ []) ++ (bytes "a= " ++ ((9 ∷ []) ++ (bytes "a" ++ ((9 ∷ []) ++ (bytes "var   >=m  !=007>  ||waituntil y; \n<= " ++ ((13 ∷ []) ++ (bytes "127" ++ ((9 ∷ []) ++ (bytes "00if\nif " ++ ((13 ∷ []) ++ (bytes "\nZ9" ++ ((9 ∷ []) ++ (bytes "128  \n-Monitor x x x   method  1(method\n0\ny\nmonitor " ++ ((9 ∷ []) ++ (bytes "true" ++ ((13 ∷ []) ++ (bytes "x<" ++ ((13 ∷ []) ++ (bytes "+" ++ ((9 ∷ []) ++ (bytes " method" ++ ((9 ∷ 9 ∷ []) ++ (bytes "\n;\n\n}(else\nif " ++ ((13 ∷ []) ++ (bytes "Monitor" ++ ((9 ∷ []) ++ (bytes "  && " ++ ((9 ∷ []) ++ (bytes "Monitor\nx 127" ++ ((9 ∷ []) ++ (bytes "keep   007x_1 \n" ++ ((9 ∷ []) ++ (bytes "in\nmonitor" ++ ((13 ∷ []) ++ (bytes ".." ++ ((9 ∷ []) ++ (bytes "<=007)true||00mod 2\n  if" ++ ((13 ∷ []) ++ (bytes "  keep>monitor" ++ ((13 ∷ []) ++ (bytes " " ++ ((13 ∷ []) ++ (bytes "<+\nmonitor x_1" ++ ((13 ∷ []) ++ (bytes " m}true  <=false" ++ ((9 ∷ []) ++ (bytes "x_1\n  >-=Z9" ++ ((13 ∷ []) ++ (bytes " Monitor waituntil\n>mod \nelse Monitor\n ==\n" ++ ((13 ∷ []) ++ (bytes "\nmod" ++ ((9 ∷ []) ++ (bytes "  True try\nx}true" ++ ((13 ∷ 9 ∷ []) ++ (bytes "\ntry(" ++ ((13 ∷ []) ++ (bytes "2" ++ ((13 ∷ []) ++ (bytes "..127true>= mod" ++ ((13 ∷ []) ++ (bytes "true x_1" ++ ((9 ∷ []) ++ (bytes "x_1" ++ ((13 ∷ []) ++ (bytes "&&" ++ ((9 ∷ []) ++ (bytes " \nwaituntil\n  monitor&&1Z9 else" ++ ((9 ∷ []) ++ (bytes ":= \n waituntil if  \n128var" ++ ((9 ∷ 9 ∷ []) ++ (bytes "=" ++ ((13 ∷ []) ++ (bytes "\n\n!=\n " ++ ((13 ∷ []) ++ (bytes "b>=  " ++ ((9 ∷ []) ++ (bytes "m" ++ ((13 ∷ []) ++ (bytes "999in..true try 007\n!=2! :=({}==( :=x >=Z9" ++ ((13 ∷ []) ++ (bytes "try \n method||if  >\n =if\n{0 128" ++ ((9 ∷ []) ++ (bytes " waituntil" ++ ((9 ∷ []) ++ (bytes "128 " ++ ((13 ∷ 13 ∷ []) ++ (bytes "||" ++ ((9 ∷ []) ++ (bytes "==127" ++ ((13 ∷ 13 ∷ []) ++ (bytes "a\n\n" ++ ((9 ∷ []) ++ (bytes "x  }\nMonitor\n\n:=127  keep(&&waituntil&&; " ++ ((9 ∷ 9 ∷ []) ++ (bytes ">=Z9" ++ ((13 ∷ []) ++ (bytes "else mod}!=.. =keep:=Monitor<  &&+  y(x var .. x" ++ ((9 ∷ []) ++ (bytes "  else>=a >..mod  try b" ++ ((13 ∷ []) ++ (bytes "\n Z9" ++ ((9 ∷ []) ++ (bytes "keep" ++ ((13 ∷ []) ++ (bytes " +m" ++ ((13 ∷ []) ++ (bytes " " ++ ((13 ∷ []) ++ (bytes "128if keep)  1  x " ++ ((9 ∷ 13 ∷ []) ++ (bytes "mod\na " ++ ((9 ∷ []) ++ (bytes " {" ++ ((13 ∷ 13 ∷ []) ++ (bytes " method" ++ ((9 ∷ []) ++ (bytes "keep method||" ++ ((13 ∷ []) ++ (bytes " " ++ ((9 ∷ []) ++ (bytes "false" ++ ((9 ∷ 13 ∷ []) ++ (bytes ">x_1 x_1\n  x)=!=mod Z9>1in \n ;0\n  999 \n1mod <=" ++ ((13 ∷ []) ++ (bytes "  == try:=if!= =" ++ ((13 ∷ []) ++ (bytes " ==\n" ++ ((9 ∷ []) ++ (bytes "var" ++ ((13 ∷ []) ++ (bytes "\n" ++ ((9 ∷ []) ++ (bytes "var\nx_1\n mod;  " ++ ((9 ∷ []) ++ (bytes "monitor|| " ++ ((9 ∷ 13 ∷ []) ++ (bytes "==monitor" ++ ((13 ∷ []) ++ (bytes "in"))))))))))))))))))))))))))))))))))))))))))))))))))))))))))))))))))))))))))))))))))))))))))))))))))))))))))))))))))))))))))))))))))))))))))))))))))))))))))))))))))))))))))))))))))))))))))))))))))))))))))))))))))))))))))))))))))))))))))))))))))))))))))))))))))))))))))))))))))))))))))))))))))))))))))))))))))))))))))))))))))))))))))))))))))))))))))))))))))))))))))))))))))))))))))))))))))))))))))))))))))))))))))))))))))))))))))))))))))))))))))))))))))))))))))))))))))))))))))))))))))))))))))))))))))))))))))))))))))))))))))))))))))))))))))))))))))))))))))))))))))))))))))))))))))))))))))))))))))))))))))))))))))))))))))))))))))))))))))))))))))))))))))))))))))))))))))))))))))))))))))))))))))))))))))))))))))))))))))))))))))))))))))))))))))))))))))))))))))))))))))))))))))))))))))))))))))))))))))))))))))))))))))))))))))))))))))))))))))))))))))))))))))))))))))))))))))))))))))))))))))))))))))))))))))))))))))))))))))))))))))))))))))))))))))))))))))))))))))))))))))))))))))))))))))))))))))))))))))))))))))))))))))))))))))))))))))))))))))))))))))))))))))))))))))))))))))))))))))))))))))))))))))))))))))))))))))))))))))))))))))))))))))))))))))))))))))))))))))))))))))))))))))))))))))))))))))))))))))))))))))))))))))))))))))))))))))))))))))))))))))))))))))))))))))))))))))))))))))))))))))))))))))))))))))))))))))))))))))))))))))))))))))))))))))))))))))))))))))))))))))))))))))))))))))))))))))))))))))))))))))))))))))))))))))))))))) (bytes "a:Z&&:):;:&_0{)x9:!x(0&:|)(_x:9)_\n:\n0")
    ∷ whole (bytes "monitor m{var a0=1in 1..36;keep a0!=36||a0<=36;try a0<=013;try a0==1||a0==1;try a0!=2;try a0!=03;method a0{waituntil(a0 mod 3==1+a0 mod a0){}}method y1{waituntil(a0>1){if(a0==036){a0:=036+1;}}}method g2{waituntil(a0<36){a0:=a0+1;}}}") ([])
    ∷ whole (bytes "monitor m{var B0=-113in-113..-111;var X1=123in 123..127;var b2=0in 0..1;var X3=127in 127..127;var e4=0in 0..0;var f5=-128in-128..-128;keep true;method z0{waituntil(B0==-113){B0:=-112;}}method g1{waituntil(b2>0){b2:=b2-1;}}method b2{waituntil(X3<=127){b2:=1;}}}" ++ ((9 ∷ []) ++ (bytes " "))) (bytes "0B0100\n060100\n0E0001\n0E0000\n050201\n070000\n0B0101\n010201\n0B0201\n060101\n0B0201\n")
    ∷ whole (bytes "monitor m{var y0=00in 0..4;keep true;try y0!=3;try y0!=2;try y0!=1;method h0{waituntil(y0>0){}}method z1{waituntil(y0==0){}waituntil(y0<4){y0:=y0+1;}try true;waituntil(y0<4){}}}") (bytes "0C0201\n030101\n080101\n0D0101\n0B0201\n070101\n020201\n000101\n040100\n090001\n080001\n")
    ∷ whole (bytes "monitor m{var h0=-1in-1..2;keep true;method Z0{waituntil(h0!=-1){h0:=h0-1;}waituntil(true){h0:=02;}}method B1{waituntil(h0!=02){h0:=2;}waituntil(true){h0:=02;}}}") (bytes "0B0000\n070000\n000201\n000301\n0B0001\n0B0101\n070001\n070101\n0A0001\n0A0101\n080001\n")
    ∷ whole (bytes "monitor m{var h0=0in 0..3;var h1=3in 0..03;var e2=0in 0..0;keep true;method Z0{waituntil(false){h0:=0;}waituntil(false){e2:=0;}}method X1{waituntil(h0<3){h0:=h0+1;}}method z2{waituntil(e2<=0&&h1>=1&&h0<0){}}}") (bytes "020201\n00000\n020201\n070201\n020200\n070200\n")
    ∷ whole (bytes "monitor m { var e0 = 3 in 0 .. 63 ; var w1 = 0 in 0 .. 64 ; var w2 = 0 in 0 .. 16 ; keep true ; method f0 { waituntil ( e0 mod 02 == 1 ) { e0 := 0 ; } waituntil ( e0 != 3 ) { e0 := e0 + 1 ; } } method Y1 { waituntil ( e0 != 03 ) { e0 := e0 + 1 ; } } }") (bytes "+B" ++ ((4 ∷ 192 ∷ []) ++ (bytes "X" ++ ((159 ∷ []) ++ (bytes "}Q-")))))
    ∷ whole (bytes "monitor m{var Z0=1in 0..3;keep Z0==1;method c0{waituntil(01<=Z0){Z0:=1;}}method d1{waituntil(001<=Z0){Z0:=Z0 mod 7-0;}}method g2{waituntil(Z0!=3){if(!Z0!=3){Z0:=0;}}}}") (bytes "0D0201\n000001\n070101\n000001\n")
    ∷ whole (bytes "monitor m{var c0=2in 1..2;var h1=0in 0..2;keep true;method Z0{waituntil(c0==02){c0:=001;}}method b1{waituntil(c0==001){c0:=2;}}method a2{waituntil(h1!=0){h1:=h1-1;}}}") (bytes "060100\n0D0100\n040100\n0F0100\n0C0200\n0E0001\n0F0101\n")
    ∷ whole (bytes "monitor m{var z0=0in 0..1;var f1=0in 0..1;var Z2=5in 5..7;keep Z2!=5;try Z2<=6;try f1!=001;method g0{waituntil(f1<1){f1:=f1+1;}}method a1{waituntil(Z2==7){Z2:=5;}}}") (bytes "020300\n040300\n0D0300\n050001\n050100\n020301\n050101\n050201\n")
    ∷ whole (bytes "monitor m{var Y0=000in 0..01;keep true;method h0{waituntil(Y0>0){Y0:=000;}}method X1{waituntil(Y0<001){Y0:=Y0+1;}}}") (bytes "000000\n060101\n060100\n000001\n")
    ∷ whole (bytes "monitor m{var f0=0in 0..4;keep true;try f0!=0;try f0<4;try f0 mod 2==0;method x0{waituntil(f0<4&&f0>=04&&f0((((({({((((<00){if(f0==0){}}waituntil(f0<004))))})})))))&&f0>=004&&f0<0){if(f0<4){f0:=f0+1;}else{f0:=0;}f0:=f0 mod 2;}}} ") ([])
    ∷ whole ((214 ∷ []) ++ (bytes ":S" ++ ((220 ∷ 163 ∷ 205 ∷ []) ++ (bytes "!" ++ ((201 ∷ 232 ∷ 138 ∷ 201 ∷ 213 ∷ []) ++ (bytes "=" ++ ((200 ∷ 224 ∷ 221 ∷ 185 ∷ 192 ∷ []) ++ (bytes "hRW" ++ ((140 ∷ []) ++ (bytes "X" ++ ((11 ∷ 164 ∷ 145 ∷ 9 ∷ []) ++ (bytes "\nqv" ++ ((233 ∷ 190 ∷ []) ++ (bytes "i" ++ ((29 ∷ 228 ∷ 228 ∷ 3 ∷ []) ++ (bytes "z" ++ ((170 ∷ 131 ∷ 253 ∷ 229 ∷ 26 ∷ 28 ∷ 246 ∷ []) ++ (bytes "8" ++ ((23 ∷ 208 ∷ 200 ∷ []) ++ (bytes "+<" ++ ((16 ∷ []) ++ (bytes "V")))))))))))))))))))))) ([])
    ∷ whole (bytes "monitor m { var f0 = 0 in - 1 .. 0 ; keep true ; method y0 { waituntil ( f0 mod 02 == 0 ) { f0 := f0 - 1 ; } } method X1 { waituntil ( f0 < 0 ) { f0 := 0 ; } } }") (bytes "080100\n0C0001\n0B0000\n030000\n020000\n0A0000\n090000\n0D0000\n080101\n080100\n060001\n0A0000\n")
    ∷ []

unfoldable told : List (List ℕ)
told =
    (bytes "00828081815CFF03000303FFFFFFFFFFFF03FFFFFFFFFF\n00828081815CFF03000303FFFFFFFFFFFF03FFFFFFFFFF\n")
    ∷ (bytes "0500DD0000\n0500DD0000\n")
    ∷ (bytes "00010100\n01000101\n008280FF00FFFFFFFF00FFFFFFFFFFFFFFFFFF\n008280FF00FFFFFFFF00FFFFFFFFFFFFFFFFFF\n")
    ∷ (bytes "00020100\n0D00040000\n0D00040000\n")
    ∷ (bytes "0F003D0000\n0F003D0000\n")
    ∷ (bytes "00010100\n01000101\n03010100\n0082FFFFFFFFFFFFFFFFFFFF01FFFFFFFFFF\n0082FFFFFFFFFFFFFFFFFFFF01FFFFFFFFFF\n")
    ∷ (bytes "0100000000\n0100000000\n")
    ∷ (bytes "0900010023\n0900010023\n")
    ∷ (bytes "02010100\n0010FB81FF8000FFFFFFFFFFFFFF00FFFFFFFFFFFF00FF\n0010FB81FF8000FFFFFFFFFFFFFF00FFFFFFFFFFFF00FF\n")
    ∷ (bytes "0400950000\n0400950000\n")
    ∷ (bytes "00020100\n01000101\n02000101\n03000101\n0081FFFFFFFFFFFFFFFF11FFFFFFFFFFFFFF\n0081FFFFFFFFFFFFFFFF11FFFFFFFFFFFFFF\n")
    ∷ (bytes "0C00010000\n0C00010000\n")
    ∷ (bytes "0700240000\n0700240000\n")
    ∷ (bytes "0081FFFFFFFFFFFFFFFFFFFFFFFFFFFFFFFF\n0081FFFFFFFFFFFFFFFFFFFFFFFFFFFFFFFF\n")
    ∷ (bytes "00010100\n01000100\n0E00060000\n0E00060000\n")
    ∷ (bytes "08003A0000\n08003A0000\n")
    ∷ (bytes "00010100\n01000100\n0080FFFFFFFFFFFF01FFFFFFFFFFFFFFFFFF\n0080FFFFFFFFFFFF01FFFFFFFFFFFFFFFFFF\n")
    ∷ (bytes "0300740000\n0300740000\n")
    ∷ (bytes "0200000000\n0200000000\n")
    ∷ (bytes "00010100\n01000100\n007FFFFF0000FFFFFFFF01000000FF00FFFF\n0E000B0000\n")
    ∷ []

same : map printing asked ≡ told
unfolding asked told printing
same = refl
